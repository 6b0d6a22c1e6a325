-- What was read of a line is what the line spells, and in its ranges.
use Rattle.std.proofs.Common.{◌≡◌, ℕ, suc, zero, ◌≤◌, ◌-◌, ◌^◌, Bool, true, false, List, [], ◌∷◌, ◌++◌, length, map, drop, Option, Some, None, Result, Ok, Err, ℤ, pos, refl, sym, ap, subst, ◌∙◌, arith, append_assoc}
use Rattle.std.specs.Prelude.{◌||◌, nat_le, codes, decimal, bytes_eq, slice_get, ◌≤ℤ◌, int_le}
use Rattle.std.specs.Fmt.{signed_decimal}
use Rattle.std.specs.List.{AllByRecursion}
use Rattle.std.proofs.lemmas.Bool.Decides.{nat_tests}
use Rattle.std.proofs.lemmas.Int.{ints}
use Rattle.std.proofs.lemmas.List.{length-append, append-nil}
use Rattle.sg_model.specs.declared.level.Level.TheVariants.{Resources, Target}
use Rattle.sg_model.specs.declared.ticket.Ticket.{Ticket}
use Rattle.sg_frac.specs.Fractions.{Fraction, IsReduced}
use Rattle.sg_tree.specs.declared.fact.Mark.{Mark}
use Rattle.sg_tree.specs.declared.fact.Line.{Line}
use Rattle.sg_tree.specs.declared.fact.Fact.{Fact}
use Rattle.sg_tree.specs.declared.fact.Fact.TheVariants.{Water}
use Rattle.sg_cert.specs.Fields.{fields, natural_next, whole_next, numbers_of, words_of, spelled_of, shaped_if, shaped_as, count_is}
use Rattle.sg_cert.specs.LineReading.{lowest, highest, in_order, reduced_of, fraction_next, fraction_of, counts_of, follows, MayStand, shares, ticket_head_of, ticket_of, mark_follows, mark_of, row_follows, multiplier_of, header_of, spent_of, target_of, split_of}
use Rattle.sg_cert.specs.Text.{FieldRow, fraction_row, ticket_row, mark_row, line_row, split_row}
use Rattle.sg_cert.specs.Ranges.{IsFrom, IsFraction, IsTicket, IsMark, IsRangedLine, IsHeader}
use Rattle.sg_num.specs.Exact.{Fits}
use Rattle.sg_cert.proofs.Cut.{both}
use Rattle.std.specs.Prelude.{if◌then◌else◌, unsigned_abs}
use Rattle.std.proofs.lemmas.Slice.Eq.{bytes_eq-Decides}
use Rattle.sg_cert.specs.Fields.{word_at, fitting, natural_of}
use Rattle.sg_cert.proofs.Common.{reduced_from_shares}
use Rattle.sg_cert.proofs.Numbers.{bound, natural_field_back, natural_next_back, whole_next_back}
use Rattle.sg_cert.proofs.LinesAgain.{IsWord}

pub ok_same : {A : Type 0} (x y : A) → ◌≡◌ {A = Result A ℕ} (Ok x) (Ok y) → x ≡ y
ok_same x y e = cc

pub no_err : {A : Type 0} (n : ℕ) (x : A) → ◌≡◌ {A = Result A ℕ} (Err n) (Ok x) → ⊥
no_err n x e = absurd cc

-- ---- shapes

abbrev pub Judged : Type 0
Judged = Result (Unit {0}) ℕ

abbrev pub count_then : Bool → Bool → Judged
count_then counted good = if counted then (if good then Ok tt else Err 5) else Err 4

tested : (counted good : Bool) (x : Unit {0}) → count_then counted good ≡ Ok x → counted ≡ true
tested true good x e = refl
tested false good x e = absurd (no_err 4 x e)

pub shape_back : (counted : Bool) (words : List ℕ) (fs : FieldRow) (x : Unit {0}) → shaped_if counted words fs ≡ Ok x → (counted ≡ true) × (words_of (fields words) fs ≡ Ok tt)
unfolding shaped_if
shape_back counted words fs x h =
    let b = bound (words_of (fields words) fs) (λ _. count_then counted (spelled_of (fields words) fs)) x h in
    (tested counted (spelled_of (fields words) fs) x b.1.1, b.1.0)

pub count_back : (n : ℕ) (fs : FieldRow) → count_is n n fs ≡ true → length fs ≡ n
count_back n fs h =
    let t = both (nat_le n (length fs)) (nat_le (length fs) n) h in
    let a : n ≤ length fs = grind (arith, nat_tests) in
    let b : length fs ≤ n = grind (arith, nat_tests) in
    omega (arith, a, b)

same_word : (a b : List ℕ) → bytes_eq a b ≡ true → a ≡ b
same_word a b h = (bytes_eq-Decides a b).0 h

abbrev pub word_none : Bool → Judged
word_none t = if t then Ok tt else Err 4

abbrev pub word_some : Bool → Bool → Judged
word_some s t = if s || t then Ok tt else Err 3

-- a fixed word stands where it is due
pub word_here : (w : List ℕ) (ws fs : FieldRow) → bytes_eq w (codes "#") ≡ false → words_of (w ∷ ws) fs ≡ Ok tt → (fs ≡ w ∷ drop 1 fs) × (words_of ws (drop 1 fs) ≡ Ok tt)
unfolding words_of
word_here w ws [] other h = absurd (none (bytes_eq w (codes "#")) other (bound (word_at w None) (λ _. words_of ws (drop 1 [])) tt h).0 (bound (word_at w None) (λ _. words_of ws (drop 1 [])) tt h).1.0)
  where
    none : (t : Bool) → t ≡ false → (x : Unit {0}) → word_none t ≡ Ok x → ⊥
    none true e x k = let w : true ≡ false = e in cc
    none false e x k = no_err 4 x k
word_here w ws (f ∷ fs) other h =
    let b = bound (word_at w (Some f)) (λ _. words_of ws (drop 1 (f ∷ fs))) tt h in
    (ap (λ (g : List ℕ). g ∷ fs) (sym (same_word w f (one (bytes_eq w (codes "#")) (bytes_eq w f) other b.0 b.1.0))), b.1.1)
  where
    one : (s t : Bool) → s ≡ false → (x : Unit {0}) → word_some s t ≡ Ok x → t ≡ true
    one s true e x k = refl
    one true false e x k = absurd (let w : true ≡ false = e in cc)
    one false false e x k = absurd (no_err 3 x k)

pub place_here : (ws fs : FieldRow) → words_of (codes "#" ∷ ws) fs ≡ Ok tt → words_of ws (drop 1 fs) ≡ Ok tt
unfolding words_of
place_here ws fs h = (bound (word_at (codes "#") (slice_get fs 0)) (λ _. words_of ws (drop 1 fs)) tt h).1.1

-- one word, and a count of fields
pub one_word : (word : List ℕ) (n : ℕ) (fs : FieldRow) (x : Unit {0}) → IsWord word → shaped_as word n n fs ≡ Ok x → (fs ≡ word ∷ drop 1 fs) × (length fs ≡ n)
one_word word n fs x w h =
    let s = shape_back (count_is n n fs) word fs x h in
    ((word_here word [] fs w.no_place (ap (λ (ws : FieldRow). words_of ws fs) (sym w.one) ∙ s.1)).0, count_back n fs s.0)

-- ---- putting the fields of a line together

pub exact : (front rest fs : FieldRow) → fs ≡ front ++ rest → length fs ≡ length front → fs ≡ front
exact front [] fs e n = e ∙ append-nil front
exact front (x ∷ xs) fs e n = absurd (omega (arith, ap length e, length-append front (x ∷ xs), n))

pub behind : (w : List ℕ) (fs rest : FieldRow) → fs ≡ w ∷ drop 1 fs → drop 1 fs ≡ rest → fs ≡ w ∷ rest
behind w fs rest e k = e ∙ ap (λ (r : FieldRow). w ∷ r) k

pub two : (a : List ℕ) {x y : FieldRow} → x ≡ y → a ∷ x ≡ a ∷ y
two a e = ap (λ (r : FieldRow). a ∷ r) e

in_order_back : (t : Bool) (x : Unit {0}) → in_order t ≡ Ok x → t ≡ true
in_order_back true x h = refl
in_order_back false x h = absurd (no_err 7 x h)

-- ---- fractions and numbers

abbrev kept : Bool → Fraction → Result Fraction ℕ
kept t f = if t then Err 6 else Ok f

reduced_back : (n d : ℤ) (f : Fraction) → pos 1 ≤ℤ d → reduced_of n d ≡ Ok f → (record { num = n; den = d } ≡ f) × IsReduced (record { num = n; den = d })
reduced_back n d f low h = go (shares (unsigned_abs n) (unsigned_abs d) (unsigned_abs d)) refl h
  where
    go : (t : Bool) → shares (unsigned_abs n) (unsigned_abs d) (unsigned_abs d) ≡ t → kept t (record { num = n; den = d }) ≡ Ok f → (record { num = n; den = d } ≡ f) × IsReduced (record { num = n; den = d })
    go true e k = absurd (no_err 6 f k)
    go false e k = (ok_same (record { num = n; den = d }) f k, reduced_from_shares n d low e)

pub fraction_next_back : (fs : FieldRow) (x : Fraction × FieldRow) → fraction_next fs ≡ Ok x → IsFraction x.0 × (fs ≡ signed_decimal x.0.num ∷ signed_decimal x.0.den ∷ x.1)
unfolding fraction_next
fraction_next_back fs x h =
    let a = bound (whole_next lowest highest fs) _ x h in
    let n = whole_next_back lowest highest fs a.0 a.1.0 in
    let b = bound (whole_next (pos 1) highest a.0.1) _ x a.1.1 in
    let d = whole_next_back (pos 1) highest a.0.1 b.0 b.1.0 in
    let c = bound (reduced_of a.0.0 b.0.0) _ x b.1.1 in
    let r = reduced_back a.0.0 b.0.0 c.0 d.1.1.0 c.1.0 in
    let e : (c.0, b.0.1) ≡ x = ok_same (c.0, b.0.1) x c.1.1 in
    subst (λ (y : Fraction × FieldRow). IsFraction y.0 × (fs ≡ signed_decimal y.0.num ∷ signed_decimal y.0.den ∷ y.1)) e
    (subst (λ (f : Fraction). IsFraction f × (fs ≡ signed_decimal f.num ∷ signed_decimal f.den ∷ b.0.1)) r.0
    (record { num = n.1.0; den = d.1.0; reduced = r.1 }, n.0 ∙ two (signed_decimal a.0.0) d.0))

pub fraction_back_of : (word : List ℕ) (fs : FieldRow) (f : Fraction) → IsWord word → fraction_of word fs ≡ Ok f → IsFraction f × (fs ≡ fraction_row word f)
unfolding fraction_of
fraction_back_of word fs f w h =
    let a = bound (shaped_as word 3 3 fs) _ f h in
    let s = one_word word 3 fs a.0 w a.1.0 in
    let b = bound (fraction_next (drop 1 fs)) _ f a.1.1 in
    let n = fraction_next_back (drop 1 fs) b.0 b.1.0 in
    let e : b.0.0 ≡ f = ok_same b.0.0 f b.1.1 in
    subst (λ (g : Fraction). IsFraction g × (fs ≡ fraction_row word g)) e
    (n.0, exact (fraction_row word b.0.0) b.0.1 fs (behind word fs _ s.0 n.1) s.1)

-- ---- facts

word_m : IsWord (codes "m")
word_m = record { one = refl; same = refl; no_place = refl }

pub mark_back : (before : Option Mark) (fs : FieldRow) (m : Mark) → mark_of before fs ≡ Ok m → IsMark before m × (fs ≡ mark_row m)
unfolding mark_of
mark_back before fs m h =
    let a = bound (shaped_as (codes "m") 4 4 fs) _ m h in
    let s = one_word (codes "m") 4 fs a.0 word_m a.1.0 in
    let b = bound (natural_next 1 8 (drop 1 fs)) _ m a.1.1 in
    let l = natural_next_back 1 8 (drop 1 fs) b.0 b.1.0 in
    let c = bound (natural_next 1 65535 b.0.1) _ m b.1.1 in
    let n = natural_next_back 1 65535 b.0.1 c.0 c.1.0 in
    let d = bound (whole_next (pos 1) highest c.0.1) _ m c.1.1 in
    let v = whole_next_back (pos 1) highest c.0.1 d.0 d.1.0 in
    let o = bound (in_order (mark_follows before b.0.0 c.0.0)) _ m d.1.1 in
    let e : record { l = b.0.0; a = c.0.0; v = d.0.0 } ≡ m = ok_same (record { l = b.0.0; a = c.0.0; v = d.0.0 }) m o.1.1 in
    subst (λ (x : Mark). IsMark before x × (fs ≡ mark_row x)) e (
      record { l = l.1; a = n.1; v = (v.1.1.0, v.1.0); order = in_order_back (mark_follows before b.0.0 c.0.0) o.0 o.1.0 },
      exact (mark_row (record { l = b.0.0; a = c.0.0; v = d.0.0 })) d.0.1 fs (behind (codes "m") fs _ s.0 (l.0 ∙ two (decimal b.0.0) (n.0 ∙ two (decimal c.0.0) v.0))) s.1,
    )

word_c : IsWord (codes "c")
word_c = record { one = refl; same = refl; no_place = refl }

pub row_back : (before : Option Line) (fs : FieldRow) (c : Line) → multiplier_of before fs ≡ Ok c → IsRangedLine before c × (fs ≡ line_row c)
unfolding multiplier_of
row_back before fs m h =
    let a = bound (shaped_as (codes "c") 3 3 fs) _ m h in
    let s = one_word (codes "c") 3 fs a.0 word_c a.1.0 in
    let b = bound (natural_next 1 1535 (drop 1 fs)) _ m a.1.1 in
    let l = natural_next_back 1 1535 (drop 1 fs) b.0 b.1.0 in
    let d = bound (whole_next (pos 1) highest b.0.1) _ m b.1.1 in
    let v = whole_next_back (pos 1) highest b.0.1 d.0 d.1.0 in
    let o = bound (in_order (row_follows before b.0.0)) _ m d.1.1 in
    let e : record { row = b.0.0; v = d.0.0 } ≡ m = ok_same (record { row = b.0.0; v = d.0.0 }) m o.1.1 in
    subst (λ (x : Line). IsRangedLine before x × (fs ≡ line_row x)) e (
      record { row = l.1; v = (v.1.1.0, v.1.0); order = in_order_back (row_follows before b.0.0) o.0 o.1.0 },
      exact (line_row (record { row = b.0.0; v = d.0.0 })) d.0.1 fs (behind (codes "c") fs _ s.0 (l.0 ∙ two (decimal b.0.0) v.0)) s.1,
    )

abbrev header_row : List ℕ → ℤ × ℤ × ℕ → FieldRow
header_row word x = word ∷ signed_decimal x.0 ∷ signed_decimal x.1 ∷ decimal x.2 ∷ []

pub header_back : (word : List ℕ) (fs : FieldRow) (x : ℤ × ℤ × ℕ) → IsWord word → header_of word fs ≡ Ok x → IsHeader x.0 x.1 x.2 × (fs ≡ header_row word x)
unfolding header_of
header_back word fs x w h =
    let a = bound (shaped_as word 4 4 fs) _ x h in
    let s = one_word word 4 fs a.0 w a.1.0 in
    let b = bound (whole_next (pos 1) highest (drop 1 fs)) _ x a.1.1 in
    let l = whole_next_back (pos 1) highest (drop 1 fs) b.0 b.1.0 in
    let c = bound (whole_next (pos 0) highest b.0.1) _ x b.1.1 in
    let m = whole_next_back (pos 0) highest b.0.1 c.0 c.1.0 in
    let d = bound (natural_next 0 (2 ^ 127 - 1) c.0.1) _ x c.1.1 in
    let k = natural_next_back 0 (2 ^ 127 - 1) c.0.1 d.0 d.1.0 in
    let e : (b.0.0, c.0.0, d.0.0) ≡ x = ok_same (b.0.0, c.0.0, d.0.0) x d.1.1 in
    subst (λ (y : ℤ × ℤ × ℕ). IsHeader y.0 y.1 y.2 × (fs ≡ header_row word y)) e (
      record { first = (l.1.1.0, l.1.0); second = (m.1.1.0, m.1.0); count = k.1.1 },
      exact (header_row word (b.0.0, c.0.0, d.0.0)) d.0.1 fs (behind word fs _ s.0 (l.0 ∙ two (signed_decimal b.0.0) (m.0 ∙ two (signed_decimal c.0.0) k.0))) s.1,
    )

-- ---- tickets

word_tickets : IsWord (codes "tickets")
word_tickets = record { one = refl; same = refl; no_place = refl }

pub counts_back : (fs : FieldRow) (x : ℕ × ℤ) → counts_of fs ≡ Ok x → (IsFrom 1 (2 ^ 127 - 1) x.0 × Fits x.1) × (fs ≡ codes "tickets" ∷ decimal x.0 ∷ signed_decimal x.1 ∷ [])
unfolding counts_of
counts_back fs x h =
    let a = bound (shaped_as (codes "tickets") 3 3 fs) _ x h in
    let s = one_word (codes "tickets") 3 fs a.0 word_tickets a.1.0 in
    let b = bound (natural_next 1 (2 ^ 127 - 1) (drop 1 fs)) _ x a.1.1 in
    let l = natural_next_back 1 (2 ^ 127 - 1) (drop 1 fs) b.0 b.1.0 in
    let c = bound (whole_next lowest highest b.0.1) _ x b.1.1 in
    let m = whole_next_back lowest highest b.0.1 c.0 c.1.0 in
    let e : (b.0.0, c.0.0) ≡ x = ok_same (b.0.0, c.0.0) x c.1.1 in
    subst (λ (y : ℕ × ℤ). (IsFrom 1 (2 ^ 127 - 1) y.0 × Fits y.1) × (fs ≡ codes "tickets" ∷ decimal y.0 ∷ signed_decimal y.1 ∷ [])) e (
      (l.1, m.1.0),
      exact (codes "tickets" ∷ decimal b.0.0 ∷ signed_decimal c.0.0 ∷ []) c.0.1 fs (behind (codes "tickets") fs _ s.0 (l.0 ∙ two (decimal b.0.0) m.0)) s.1,
    )

-- numbers that were read behind others
pub record NumbersBack (low : ℕ) (done : List ℕ) (fs : FieldRow) (xs : List ℕ) : Type 0 where
  pub more : List ℕ
  pub all : done ++ more ≡ xs
  pub spelled : fs ≡ map decimal more
  pub range : AllByRecursion (λ x. IsFrom low 65535 x) more

pub numbers_back : (low : ℕ) (done : List ℕ) (fs : FieldRow) (xs : List ℕ) → numbers_of low 65535 done fs ≡ Ok xs → NumbersBack low done fs xs
unfolding numbers_of
numbers_back low done [] xs h = record { more = []; all = append-nil done ∙ ok_same done xs h; spelled = refl; range = tt }
numbers_back low done (f ∷ fs) xs h =
    let b = bound (natural_of low 65535 (fitting f)) _ xs h in
    let n = natural_field_back low 65535 f b.0 b.1.0 in
    let ih = numbers_back low (done ++ b.0 ∷ []) fs xs b.1.1 in
    record {
      more = b.0 ∷ ih.more;
      all = sym (append_assoc done (b.0 ∷ []) ih.more) ∙ ih.all;
      spelled = ap (λ (g : List ℕ). g ∷ fs) n.0 ∙ two (decimal b.0) ih.spelled;
      range = (n.1, ih.range);
    }

word_t : IsWord (codes "t")
word_t = record { one = refl; same = refl; no_place = refl }

pub decimals_length : (xs : List ℕ) → length (map decimal xs) ≡ length xs
decimals_length [] = refl
decimals_length (x ∷ xs) = ap (λ (n : ℕ). suc n) (decimals_length xs)

pub below : (low : ℕ) (xs : List ℕ) → AllByRecursion (λ x. IsFrom low 65535 x) xs → AllByRecursion (λ x. x ≤ 65535) xs
below low [] h = tt
below low (x ∷ xs) h = (h.0.1, below low xs h.1)

int_le_from : (z : ℤ) → pos 1 ≤ℤ z → int_le (pos 1) z ≡ true
int_le_from z h = sym (omega (arith, ints, h))

pub most : (high : ℕ) (fs : FieldRow) → count_is 2 high fs ≡ true → length fs ≤ high
most high fs h = let t = both (nat_le 2 (length fs)) (nat_le (length fs) high) h in let u = t.1 in grind (arith, nat_tests)

pub ticket_back : (before : Option (List ℕ)) (fs : FieldRow) (t : Ticket) → ticket_of before fs ≡ Ok t → (IsTicket t × MayStand before t) × (fs ≡ ticket_row t)
unfolding ticket_of
ticket_back before fs t h =
    let a = bound (ticket_head_of fs) _ t h in
    let b = bound (shaped_as (codes "t") 2 202 fs) (λ _. whole_next (pos 1) highest (drop 1 fs)) a.0 a.1.0 in
    let s = shape_back (count_is 2 202 fs) (codes "t") fs b.0 b.1.0 in
    let w = word_here (codes "t") [] fs refl s.1 in
    let v = whole_next_back (pos 1) highest (drop 1 fs) a.0 b.1.1 in
    let c = bound (numbers_of 0 65535 [] a.0.1) _ t a.1.1 in
    let n = numbers_back 0 [] a.0.1 c.0 c.1.0 in
    let o = bound (in_order (follows before c.0)) _ t c.1.1 in
    let whole : fs ≡ codes "t" ∷ signed_decimal a.0.0 ∷ map decimal c.0 = behind (codes "t") fs _ w.0 (v.0 ∙ two (signed_decimal a.0.0) (n.spelled ∙ ap (map decimal) n.all)) in
    let count : length c.0 ≤ 200 = omega (arith, most 202 fs s.0, ap length whole, decimals_length c.0) in
    let e : record { play = record { code = c.0 }; weight = a.0.0 } ≡ t = ok_same (record { play = record { code = c.0 }; weight = a.0.0 }) t o.1.1 in
    subst (λ (x : Ticket). (IsTicket x × MayStand before x) × (fs ≡ ticket_row x)) e (
      (
        record { weight = v.1.0; count = count; choices = subst (λ (xs : List ℕ). AllByRecursion (λ x. x ≤ 65535) xs) n.all (below 0 n.more n.range) },
        (int_le_from a.0.0 v.1.1.0, in_order_back (follows before c.0) o.0 o.1.0),
      ),
      whole,
    )

-- ---- water

pub spent_back : (fs : FieldRow) (f : Fact) → spent_of fs ≡ Ok f → (x : Fraction) × ((Water x Resources ≡ f) × (IsFraction x × (fs ≡ codes "water" ∷ signed_decimal x.num ∷ signed_decimal x.den ∷ codes "resources" ∷ [])))
unfolding spent_of
spent_back fs f h =
    let a = bound (shaped_as (codes "water # # resources") 4 4 fs) _ f h in
    let s = shape_back (count_is 4 4 fs) (codes "water # # resources") fs a.0 a.1.0 in
    let w = word_here (codes "water") _ fs refl s.1 in
    let r = word_here (codes "resources") [] (drop 1 (drop 1 (drop 1 fs))) refl (place_here _ (drop 1 (drop 1 fs)) (place_here _ (drop 1 fs) w.1)) in
    let b = bound (fraction_next (drop 1 fs)) _ f a.1.1 in
    let n = fraction_next_back (drop 1 fs) b.0 b.1.0 in
    let rest : b.0.1 ≡ codes "resources" ∷ drop 1 b.0.1 = subst (λ (g : FieldRow). drop 1 (drop 1 g) ≡ codes "resources" ∷ drop 1 (drop 1 (drop 1 g))) n.1 r.0 in (
      b.0.0,
      (
        ok_same (Water b.0.0 Resources) f b.1.1,
        (
          n.0,
          exact (codes "water" ∷ signed_decimal b.0.0.num ∷ signed_decimal b.0.0.den ∷ codes "resources" ∷ []) (drop 1 b.0.1) fs
              (behind (codes "water") fs _ w.0 (n.1 ∙ two (signed_decimal b.0.0.num) (two (signed_decimal b.0.0.den) rest))) (count_back 4 fs s.0),
        ),
      ),
    )

pub target_back : (fs : FieldRow) (f : Fact) → target_of fs ≡ Ok f
    → (x : Fraction) × ((j : ℕ) × ((Water x (Target j) ≡ f) × ((IsFraction x × IsFrom 1 65535 j) × (fs ≡ codes "water" ∷ signed_decimal x.num ∷ signed_decimal x.den ∷ codes "target" ∷ decimal j ∷ []))))
unfolding target_of
target_back fs f h =
    let a = bound (shaped_as (codes "water # # target #") 5 5 fs) _ f h in
    let s = shape_back (count_is 5 5 fs) (codes "water # # target #") fs a.0 a.1.0 in
    let w = word_here (codes "water") _ fs refl s.1 in
    let r = word_here (codes "target") _ (drop 1 (drop 1 (drop 1 fs))) refl (place_here _ (drop 1 (drop 1 fs)) (place_here _ (drop 1 fs) w.1)) in
    let b = bound (fraction_next (drop 1 fs)) _ f a.1.1 in
    let n = fraction_next_back (drop 1 fs) b.0 b.1.0 in
    let c = bound (natural_next 1 65535 (drop 4 fs)) _ f b.1.1 in
    let j = natural_next_back 1 65535 (drop 4 fs) c.0 c.1.0 in
    let rest : b.0.1 ≡ codes "target" ∷ drop 1 b.0.1 = subst (λ (g : FieldRow). drop 1 (drop 1 g) ≡ codes "target" ∷ drop 1 (drop 1 (drop 1 g))) n.1 r.0 in
    let front : fs ≡ codes "water" ∷ signed_decimal b.0.0.num ∷ signed_decimal b.0.0.den ∷ codes "target" ∷ drop 1 b.0.1 = behind (codes "water") fs _ w.0 (n.1 ∙ two (signed_decimal b.0.0.num) (two (signed_decimal b.0.0.den) rest)) in
    let last : drop 1 b.0.1 ≡ decimal c.0.0 ∷ c.0.1 = ap (λ (g : FieldRow). drop 4 g) (sym front) ∙ j.0 in (
      b.0.0,
      (
        c.0.0,
        (
          ok_same (Water b.0.0 (Target c.0.0)) f c.1.1,
          (
            (n.0, j.1),
            exact (codes "water" ∷ signed_decimal b.0.0.num ∷ signed_decimal b.0.0.den ∷ codes "target" ∷ decimal c.0.0 ∷ []) c.0.1 fs
                (front ∙ two (codes "water") (two (signed_decimal b.0.0.num) (two (signed_decimal b.0.0.den) (two (codes "target") last)))) (count_back 5 fs s.0),
          ),
        ),
      ),
    )

-- ---- caps and splits

word_split : IsWord (codes "split")
word_split = record { one = refl; same = refl; no_place = refl }

pub split_back : (fs : FieldRow) (x : ℕ × ℕ) → split_of fs ≡ Ok x → (IsFrom 1 8 x.0 × IsFrom 1 65535 x.1) × (fs ≡ split_row x.0 x.1)
unfolding split_of
split_back fs x h =
    let a = bound (shaped_as (codes "split") 3 3 fs) _ x h in
    let s = one_word (codes "split") 3 fs a.0 word_split a.1.0 in
    let b = bound (natural_next 1 8 (drop 1 fs)) _ x a.1.1 in
    let l = natural_next_back 1 8 (drop 1 fs) b.0 b.1.0 in
    let c = bound (natural_next 1 65535 b.0.1) _ x b.1.1 in
    let n = natural_next_back 1 65535 b.0.1 c.0 c.1.0 in
    let e : (b.0.0, c.0.0) ≡ x = ok_same (b.0.0, c.0.0) x c.1.1 in
    subst (λ (y : ℕ × ℕ). (IsFrom 1 8 y.0 × IsFrom 1 65535 y.1) × (fs ≡ split_row y.0 y.1)) e (
      (l.1, n.1),
      exact (split_row b.0.0 c.0.0) c.0.1 fs (behind (codes "split") fs _ s.0 (l.0 ∙ two (decimal b.0.0) n.0)) s.1,
    )

-- the row of a cap with so many facts
abbrev kind_line : ℕ → ℤ → ℕ → FieldRow
kind_line l v zero = codes "cap" ∷ decimal l ∷ codes "plain" ∷ signed_decimal v ∷ []
kind_line l v (suc n) = codes "cap" ∷ decimal l ∷ codes "proved" ∷ signed_decimal v ∷ decimal (suc n) ∷ []

abbrev pub cap_line : ℕ × ℤ × ℕ → FieldRow
cap_line x = kind_line x.0 x.1 x.2
