-- What was read of the line of a cap, and of the verdict, is what the line spells, and in its ranges.
use Rattle.std.proofs.Common.{◌≡◌, ℕ, suc, zero, ◌+◌, ◌<◌, ◌≤◌, ◌-◌, ◌^◌, Bool, true, false, List, [], ◌∷◌, ◌++◌, length, map, drop, Option, Some, Result, Ok, ℤ, pos, negsuc, refl, sym, ap, subst, ◌∙◌, arith}
use Rattle.std.specs.Prelude.{codes, decimal, bytes_eq, slice_get, ◌≤ℤ◌}
use Rattle.std.specs.Fmt.{signed_decimal}
use Rattle.std.specs.List.{AllByRecursion}
use Rattle.std.proofs.lemmas.Bool.Decides.{nat_tests}
use Rattle.std.proofs.lemmas.List.{length-append}
use Rattle.sg_num.specs.declared.step.Op.{Op}
use Rattle.sg_num.specs.declared.step.Op.TheVariants.{Sum, Less, Times}
use Rattle.sg_num.specs.declared.step.Wide.{Wide}
use Rattle.sg_tree.specs.declared.fix.Fix.{Fix}
use Rattle.sg_tree.specs.declared.report.Cause.{Cause}
use Rattle.sg_tree.specs.declared.report.Cause.TheVariants as causes
use Rattle.sg_tree.specs.declared.report.Ending.{Ending}
use Rattle.sg_tree.specs.declared.report.Ending.TheVariants.{Optimal, Gap}
use Rattle.sg_model.specs.Steps.{◌>>=◌}
use Rattle.sg_cert.specs.LineReading.{lowest, highest, bound_next, plain_of, proved_of, cap_head_of, fix_of, nodes_of, pivots_head_of, pivots_of, looks_head_of, looks_of, wide_head_of, wide_as, wide_of, cause_of, optimal_of, gap_of, verdict_of}
use Rattle.sg_cert.specs.Text.{FieldRow, fix_fields, op_word, cause_fields, verdict_row}
use Rattle.sg_cert.specs.Ranges.{IsFrom, IsRangedFix, IsCause, IsEnding}
use Rattle.std.specs.Prelude.{if◌then◌else◌}
use Rattle.sg_cert.specs.Fields.{has_word, fields, is_natural, natural_next, whole_next, numbers_of, words_of, shaped_as, shaped_to, count_follows, count_is}
use Rattle.sg_cert.proofs.Numbers.{bound, natural_next_back, whole_next_back, decimal_spells, spells_natural}
use Rattle.sg_cert.proofs.LinesBack.{ok_same, shape_back, count_back, word_here, place_here, behind, two, exact, decimals_length, numbers_back, cap_line}

abbrev pub IsBound : ℤ → Type 0
IsBound v = (negsuc (2 ^ 63 - 1) ≤ℤ v) × (v ≤ℤ pos (2 ^ 63 - 1))

abbrev pub IsCapLine : ℕ × ℤ × ℕ → Type 0
IsCapLine x = IsFrom 1 8 x.0 × IsBound x.1 × (x.2 ≤ 65535)

plain_back : (fs : FieldRow) (x : ℕ × ℤ × ℕ) → plain_of fs ≡ Ok x → IsCapLine x × (fs ≡ cap_line x)
unfolding plain_of
plain_back fs x h =
    let a = bound (shaped_as (codes "cap # plain #") 4 4 fs) _ x h in
    let s = shape_back (count_is 4 4 fs) (codes "cap # plain #") fs a.0 a.1.0 in
    let w = word_here (codes "cap") _ fs refl s.1 in
    let r = word_here (codes "plain") _ (drop 1 (drop 1 fs)) refl (place_here _ (drop 1 fs) w.1) in
    let b = bound (natural_next 1 8 (drop 1 fs)) _ x a.1.1 in
    let l = natural_next_back 1 8 (drop 1 fs) b.0 b.1.0 in
    let c = bound (bound_next (drop 3 fs)) _ x b.1.1 in
    let v = whole_next_back (negsuc (2 ^ 63 - 1)) (pos (2 ^ 63 - 1)) (drop 3 fs) c.0 c.1.0 in
    let rest : b.0.1 ≡ codes "plain" ∷ drop 1 b.0.1 = subst (λ (g : FieldRow). drop 1 g ≡ codes "plain" ∷ drop 1 (drop 1 g)) l.0 r.0 in
    let front : fs ≡ codes "cap" ∷ decimal b.0.0 ∷ codes "plain" ∷ drop 1 b.0.1 = behind (codes "cap") fs _ w.0 (l.0 ∙ two (decimal b.0.0) rest) in
    let last : drop 1 b.0.1 ≡ signed_decimal c.0.0 ∷ c.0.1 = ap (λ (g : FieldRow). drop 3 g) (sym front) ∙ v.0 in
    let e : (b.0.0, c.0.0, 0) ≡ x = ok_same (b.0.0, c.0.0, 0) x c.1.1 in
    subst (λ (y : ℕ × ℤ × ℕ). IsCapLine y × (fs ≡ cap_line y)) e (
      (l.1, v.1.1, omega arith),
      exact (codes "cap" ∷ decimal b.0.0 ∷ codes "plain" ∷ signed_decimal c.0.0 ∷ []) c.0.1 fs (front ∙ two (codes "cap") (two (decimal b.0.0) (two (codes "plain") last))) (count_back 4 fs s.0),
    )

some_line : (l n : ℕ) (v : ℤ) → 1 ≤ n → codes "cap" ∷ decimal l ∷ codes "proved" ∷ signed_decimal v ∷ decimal n ∷ [] ≡ cap_line (l, v, n)
some_line l zero v h = absurd (omega (arith, h))
some_line l (suc n) v h = refl

proved_back : (fs : FieldRow) (x : ℕ × ℤ × ℕ) → proved_of fs ≡ Ok x → IsCapLine x × (fs ≡ cap_line x)
unfolding proved_of
proved_back fs x h =
    let a = bound (shaped_as (codes "cap # proved # #") 5 5 fs) _ x h in
    let s = shape_back (count_is 5 5 fs) (codes "cap # proved # #") fs a.0 a.1.0 in
    let w = word_here (codes "cap") _ fs refl s.1 in
    let r = word_here (codes "proved") _ (drop 1 (drop 1 fs)) refl (place_here _ (drop 1 fs) w.1) in
    let b = bound (natural_next 1 8 (drop 1 fs)) _ x a.1.1 in
    let l = natural_next_back 1 8 (drop 1 fs) b.0 b.1.0 in
    let c = bound (bound_next (drop 3 fs)) _ x b.1.1 in
    let v = whole_next_back (negsuc (2 ^ 63 - 1)) (pos (2 ^ 63 - 1)) (drop 3 fs) c.0 c.1.0 in
    let d = bound (natural_next 1 65535 c.0.1) _ x c.1.1 in
    let n = natural_next_back 1 65535 c.0.1 d.0 d.1.0 in
    let rest : b.0.1 ≡ codes "proved" ∷ drop 1 b.0.1 = subst (λ (g : FieldRow). drop 1 g ≡ codes "proved" ∷ drop 1 (drop 1 g)) l.0 r.0 in
    let front : fs ≡ codes "cap" ∷ decimal b.0.0 ∷ codes "proved" ∷ drop 1 b.0.1 = behind (codes "cap") fs _ w.0 (l.0 ∙ two (decimal b.0.0) rest) in
    let last : drop 1 b.0.1 ≡ signed_decimal c.0.0 ∷ c.0.1 = ap (λ (g : FieldRow). drop 3 g) (sym front) ∙ v.0 in
    let e : (b.0.0, c.0.0, d.0.0) ≡ x = ok_same (b.0.0, c.0.0, d.0.0) x d.1.1 in
    subst (λ (y : ℕ × ℤ × ℕ). IsCapLine y × (fs ≡ cap_line y)) e (
      (l.1, v.1.1, n.1.1),
      exact (codes "cap" ∷ decimal b.0.0 ∷ codes "proved" ∷ signed_decimal c.0.0 ∷ decimal d.0.0 ∷ []) d.0.1 fs
          (front ∙ two (codes "cap") (two (decimal b.0.0) (two (codes "proved") (last ∙ two (signed_decimal c.0.0) n.0)))) (count_back 5 fs s.0)
          ∙ some_line b.0.0 d.0.0 c.0.0 n.1.0,
    )

pub cap_line_back : (fs : FieldRow) (x : ℕ × ℤ × ℕ) → cap_head_of fs ≡ Ok x → IsCapLine x × (fs ≡ cap_line x)
cap_line_back fs x h = go (has_word 2 (codes "plain") fs) h
  where
    go : (t : Bool) → (if t then plain_of fs else proved_of fs) ≡ Ok x → IsCapLine x × (fs ≡ cap_line x)
    go true k = plain_back fs x k
    go false k = proved_back fs x k

-- ---- the verdict

-- a fix that was read, with the count of its actions as it was spelled
record FixBack (fs : FieldRow) (f : Fix) : Type 0 where
  k : ℕ
  first : IsFrom 1 8 f.first
  count : IsFrom 1 8 k
  acts : AllByRecursion (λ a. IsFrom 1 65535 a) f.acts
  spelled : fs ≡ decimal f.first ∷ decimal k ∷ map decimal f.acts

fix_back : (fs : FieldRow) (f : Fix) → fix_of fs ≡ Ok f → FixBack fs f
unfolding fix_of
fix_back fs f h =
    let a = bound (natural_next 1 8 fs) _ f h in
    let l = natural_next_back 1 8 fs a.0 a.1.0 in
    let b = bound (natural_next 1 8 a.0.1) _ f a.1.1 in
    let k = natural_next_back 1 8 a.0.1 b.0 b.1.0 in
    let c = bound (numbers_of 1 65535 [] b.0.1) _ f b.1.1 in
    let n = numbers_back 1 [] b.0.1 c.0 c.1.0 in
    let e : record { first = a.0.0; acts = c.0 } ≡ f = ok_same (record { first = a.0.0; acts = c.0 }) f c.1.1 in
    subst (λ (g : Fix). FixBack fs g) e (record {
      k = b.0.0;
      first = l.1;
      count = k.1;
      acts = subst (λ (xs : List ℕ). AllByRecursion (λ a. IsFrom 1 65535 a) xs) n.all n.range;
      spelled = l.0 ∙ two (decimal a.0.0) (k.0 ∙ two (decimal b.0.0) (n.spelled ∙ ap (map decimal) n.all));
    })

-- the count that a field told
told : (at count k : ℕ) (field : Option (List ℕ)) → k < 2 ^ 127 → field ≡ Some (decimal k) → count_follows at count field ≡ true → count ≡ at + 1 + k
told at count k field small e h =
    let s = decimal_spells k (omega (arith, small)) in
    let n : is_natural (decimal k) ≡ true = spells_natural k (decimal k) s in
    let g : count_follows at count (Some (decimal k)) ≡ true = subst (λ (f : Option (List ℕ)). count_follows at count f ≡ true) e h in
    let t = rw (n, s.value) at g in
    grind (arith, nat_tests)

-- with the fields before it, the count is that of the actions
fix_whole : (front fs whole : FieldRow) (f : Fix) (at : ℕ) → FixBack fs f → whole ≡ front ++ fs → at ≡ length front + 1 → slice_get (front ++ fs) at ≡ slice_get fs 1 → count_follows at (length whole) (slice_get whole at) ≡ true
    → IsRangedFix f × (whole ≡ front ++ fix_fields f)
fix_whole front fs whole f at b e n g h =
    let field : slice_get whole at ≡ Some (decimal b.k) = ap (λ (r : FieldRow). slice_get r at) e ∙ g ∙ ap (λ (r : FieldRow). slice_get r 1) b.spelled in
    let t = told at (length whole) b.k (slice_get whole at) (omega (arith, b.count)) field h in
    let same : b.k ≡ length f.acts = omega (arith, t, n, ap length e, length-append front fs, ap length b.spelled, decimals_length f.acts) in (
      record { first = b.first; count = subst (λ (k : ℕ). IsFrom 1 8 k) same b.count; acts = b.acts },
      e ∙ ap (λ (r : FieldRow). front ++ r) (b.spelled ∙ ap (λ (k : ℕ). decimal f.first ∷ decimal k ∷ map decimal f.acts) same),
    )

three_words : (a b c : List ℕ) (ws fs : FieldRow) → bytes_eq a (codes "#") ≡ false → bytes_eq b (codes "#") ≡ false → bytes_eq c (codes "#") ≡ false → words_of (a ∷ b ∷ c ∷ ws) fs ≡ Ok tt
    → (fs ≡ a ∷ b ∷ c ∷ drop 3 fs) × (words_of ws (drop 3 fs) ≡ Ok tt)
three_words a b c ws fs x y z h =
    let p = word_here a (b ∷ c ∷ ws) fs x h in
    let q = word_here b (c ∷ ws) (drop 1 fs) y p.1 in
    let r = word_here c ws (drop 1 (drop 1 fs)) z q.1 in
    let d : drop 1 (drop 1 (drop 1 fs)) ≡ drop 3 fs = drops fs in
    (p.0 ∙ two a (q.0 ∙ two b (r.0 ∙ two c d)), subst (λ (g : FieldRow). words_of ws g ≡ Ok tt) d r.1)
  where
    drops : (fs : FieldRow) → drop 1 (drop 1 (drop 1 fs)) ≡ drop 3 fs
    drops [] = refl
    drops (f ∷ []) = refl
    drops (f ∷ g ∷ []) = refl
    drops (f ∷ g ∷ k ∷ fs) = refl

abbrev CauseBack : FieldRow → Cause → Type 0
CauseBack fs c = IsCause c × (fs ≡ codes "verdict" ∷ codes "gap" ∷ cause_fields c)

nodes_back : (fs : FieldRow) (c : Cause) → nodes_of fs ≡ Ok c → CauseBack fs c
unfolding nodes_of
nodes_back fs c h =
    let a = bound (shaped_as (codes "verdict gap nodes") 4 4 fs) _ c h in
    let s = shape_back (count_is 4 4 fs) (codes "verdict gap nodes") fs a.0 a.1.0 in
    let w = three_words (codes "verdict") (codes "gap") (codes "nodes") [] fs refl refl refl s.1 in
    let b = bound (natural_next 1 (2 ^ 64 - 1) (drop 3 fs)) _ c a.1.1 in
    let n = natural_next_back 1 (2 ^ 64 - 1) (drop 3 fs) b.0 b.1.0 in
    subst (λ (x : Cause). CauseBack fs x) (ok_same (causes.Nodes b.0.0) c b.1.1)
    (n.1, exact (codes "verdict" ∷ codes "gap" ∷ codes "nodes" ∷ decimal b.0.0 ∷ []) b.0.1 fs (w.0 ∙ two (codes "verdict") (two (codes "gap") (two (codes "nodes") n.0))) (count_back 4 fs s.0))

pivots_back : (fs : FieldRow) (c : Cause) → pivots_of fs ≡ Ok c → CauseBack fs c
unfolding pivots_of
pivots_back fs c h =
    let a = bound (pivots_head_of fs) _ c h in
    let b = bound (shaped_to (codes "verdict gap pivots") 5 fs) (λ _. natural_next 1 (2 ^ 64 - 1) (drop 3 fs)) a.0 a.1.0 in
    let s = shape_back (count_follows 5 (length fs) (slice_get fs 5)) (codes "verdict gap pivots") fs b.0 b.1.0 in
    let w = three_words (codes "verdict") (codes "gap") (codes "pivots") [] fs refl refl refl s.1 in
    let n = natural_next_back 1 (2 ^ 64 - 1) (drop 3 fs) a.0 b.1.1 in
    let d = bound (fix_of a.0.1) _ c a.1.1 in
    let f = fix_whole (codes "verdict" ∷ codes "gap" ∷ codes "pivots" ∷ decimal a.0.0 ∷ []) a.0.1 fs d.0 5 (fix_back a.0.1 d.0 d.1.0) (w.0 ∙ two (codes "verdict") (two (codes "gap") (two (codes "pivots") n.0))) refl refl s.0 in
    subst (λ (x : Cause). CauseBack fs x) (ok_same (causes.Pivots a.0.0 d.0) c d.1.1) ((n.1, f.0), f.1)

looks_back : (fs : FieldRow) (c : Cause) → looks_of fs ≡ Ok c → CauseBack fs c
unfolding looks_of looks_head_of
looks_back fs c h =
    let a = bound (looks_head_of fs) _ c h in
    let b = bound (shaped_to (codes "verdict gap looks") 6 fs) _ a.0 a.1.0 in
    let s = shape_back (count_follows 6 (length fs) (slice_get fs 6)) (codes "verdict gap looks") fs b.0 b.1.0 in
    let w = three_words (codes "verdict") (codes "gap") (codes "looks") [] fs refl refl refl s.1 in
    let p = bound (natural_next 1 (2 ^ 64 - 1) (drop 3 fs)) _ a.0 b.1.1 in
    let n = natural_next_back 1 (2 ^ 64 - 1) (drop 3 fs) p.0 p.1.0 in
    let q = bound (natural_next 0 (2 ^ 64 - 1) p.0.1) _ a.0 p.1.1 in
    let m = natural_next_back 0 (2 ^ 64 - 1) p.0.1 q.0 q.1.0 in
    let e : ((p.0.0, q.0.0), q.0.1) ≡ a.0 = ok_same ((p.0.0, q.0.0), q.0.1) a.0 q.1.1 in
    let k = subst (λ (y : (ℕ × ℕ) × FieldRow). (fix_of y.1 >>= λ fix. Ok (causes.Looks y.0.0 y.0.1 fix)) ≡ Ok c) (sym e) a.1.1 in
    let d = bound (fix_of q.0.1) _ c k in
    let f = fix_whole (codes "verdict" ∷ codes "gap" ∷ codes "looks" ∷ decimal p.0.0 ∷ decimal q.0.0 ∷ []) q.0.1 fs d.0 6 (fix_back q.0.1 d.0 d.1.0) (w.0 ∙ two (codes "verdict") (two (codes "gap") (two (codes "looks") (n.0 ∙ two (decimal p.0.0) m.0)))) refl refl s.0 in
    subst (λ (x : Cause). CauseBack fs x) (ok_same (causes.Looks p.0.0 q.0.0 d.0) c d.1.1) ((n.1, m.1, f.0), f.1)

wide_back : (op : Op) (words : List ℕ) (fs : FieldRow) (c : Cause) → fields words ≡ codes "verdict" ∷ codes "gap" ∷ codes "wide" ∷ codes "#" ∷ op_word op ∷ [] → bytes_eq (op_word op) (codes "#") ≡ false
    → wide_as op words fs ≡ Ok c → CauseBack fs c
unfolding wide_as wide_head_of
wide_back op words fs c e other h =
    let a = bound (wide_head_of op words fs) _ c h in
    let b = bound (shaped_to words 9 fs) _ a.0 a.1.0 in
    let s = shape_back (count_follows 9 (length fs) (slice_get fs 9)) words fs b.0 b.1.0 in
    let w = three_words (codes "verdict") (codes "gap") (codes "wide") _ fs refl refl refl (ap (λ (ws : FieldRow). words_of ws fs) (sym e) ∙ s.1) in
    let o = word_here (op_word op) [] (drop 1 (drop 3 fs)) other (place_here _ (drop 3 fs) w.1) in
    let p = bound (natural_next 1 7 (drop 3 fs)) _ a.0 b.1.1 in
    let n = natural_next_back 1 7 (drop 3 fs) p.0 p.1.0 in
    let l = bound (whole_next lowest highest (drop 5 fs)) _ a.0 p.1.1 in
    let x = whole_next_back lowest highest (drop 5 fs) l.0 l.1.0 in
    let r = bound (whole_next lowest highest l.0.1) _ a.0 l.1.1 in
    let y = whole_next_back lowest highest l.0.1 r.0 r.1.0 in
    let q = bound (natural_next 0 (2 ^ 64 - 1) r.0.1) _ a.0 r.1.1 in
    let m = natural_next_back 0 (2 ^ 64 - 1) r.0.1 q.0 q.1.0 in
    let wide : Wide = record { op = op; left = l.0.0; right = r.0.0 } in
    let g : ((p.0.0, wide, q.0.0), q.0.1) ≡ a.0 = ok_same ((p.0.0, wide, q.0.0), q.0.1) a.0 q.1.1 in
    let k = subst (λ (y : (ℕ × Wide × ℕ) × FieldRow). (fix_of y.1 >>= λ fix. Ok (causes.Wide y.0.0 y.0.1 y.0.2 fix)) ≡ Ok c) (sym g) a.1.1 in
    let d = bound (fix_of q.0.1) _ c k in
    let rest : p.0.1 ≡ op_word op ∷ drop 1 p.0.1 = subst (λ (g : FieldRow). drop 1 g ≡ op_word op ∷ drop 1 (drop 1 g)) n.0 o.0 in
    let front : fs ≡ codes "verdict" ∷ codes "gap" ∷ codes "wide" ∷ decimal p.0.0 ∷ op_word op ∷ drop 1 p.0.1 = w.0 ∙ two (codes "verdict") (two (codes "gap") (two (codes "wide") (n.0 ∙ two (decimal p.0.0) rest))) in
    let last : drop 1 p.0.1 ≡ signed_decimal l.0.0 ∷ l.0.1 = ap (λ (g : FieldRow). drop 5 g) (sym front) ∙ x.0 in
    let f = fix_whole (codes "verdict" ∷ codes "gap" ∷ codes "wide" ∷ decimal p.0.0 ∷ op_word op ∷ signed_decimal l.0.0 ∷ signed_decimal r.0.0 ∷ decimal q.0.0 ∷ []) q.0.1 fs d.0 9 (fix_back q.0.1 d.0 d.1.0)
    (front ∙ two (codes "verdict") (two (codes "gap") (two (codes "wide") (two (decimal p.0.0) (two (op_word op) (last ∙ two (signed_decimal l.0.0) (y.0 ∙ two (signed_decimal r.0.0) m.0))))))) refl refl s.0 in
    subst (λ (x : Cause). CauseBack fs x) (ok_same (causes.Wide p.0.0 wide q.0.0 d.0) c d.1.1) ((n.1, x.1.0, y.1.0, m.1, f.0), f.1)

abbrev either : {A : Type 0} → Bool → A → A → A
either t x y = if t then x else y

which : (t : Bool) (x y : Result Cause ℕ) (c : Cause) (P : Type 0) → (x ≡ Ok c → P) → (y ≡ Ok c → P) → either t x y ≡ Ok c → P
which true x y c P f g h = f h
which false x y c P f g h = g h

cause_back : (fs : FieldRow) (c : Cause) → cause_of fs ≡ Ok c → CauseBack fs c
cause_back fs c =
    which (has_word 2 (codes "nodes") fs) (nodes_of fs) _ c (CauseBack fs c) (nodes_back fs c)
    (which (has_word 2 (codes "pivots") fs) (pivots_of fs) _ c (CauseBack fs c) (pivots_back fs c)
    (which (has_word 2 (codes "looks") fs) (looks_of fs) (wide_of fs) c (CauseBack fs c) (looks_back fs c)
    (which (has_word 4 (codes "sum") fs) (wide_as Sum (codes "verdict gap wide # sum") fs) _ c (CauseBack fs c) (wide_back Sum (codes "verdict gap wide # sum") fs c refl refl)
    (which (has_word 4 (codes "less") fs) (wide_as Less (codes "verdict gap wide # less") fs) (wide_as Times (codes "verdict gap wide # times") fs) c (CauseBack fs c) (wide_back Less (codes "verdict gap wide # less") fs c refl refl)
    (wide_back Times (codes "verdict gap wide # times") fs c refl refl)))))

optimal_back : (fs : FieldRow) (e : Ending) → optimal_of fs ≡ Ok e → IsEnding e × (fs ≡ verdict_row e)
unfolding optimal_of
optimal_back fs e h =
    let a = bound (shaped_as (codes "verdict optimal") 2 2 fs) _ e h in
    let s = shape_back (count_is 2 2 fs) (codes "verdict optimal") fs a.0 a.1.0 in
    let w = word_here (codes "verdict") _ fs refl s.1 in
    let o = word_here (codes "optimal") [] (drop 1 fs) refl w.1 in
    subst (λ (x : Ending). IsEnding x × (fs ≡ verdict_row x)) (ok_same Optimal e a.1.1)
    (tt, exact (codes "verdict" ∷ codes "optimal" ∷ []) _ fs (behind (codes "verdict") fs _ w.0 o.0) (count_back 2 fs s.0))

gap_back : (fs : FieldRow) (e : Ending) → gap_of fs ≡ Ok e → IsEnding e × (fs ≡ verdict_row e)
unfolding gap_of
gap_back fs e h =
    let a = bound (cause_of fs) _ e h in
    subst (λ (x : Ending). IsEnding x × (fs ≡ verdict_row x)) (ok_same (Gap a.0) e a.1.1) (cause_back fs a.0 a.1.0)

pub verdict_back : (fs : FieldRow) (e : Ending) → verdict_of fs ≡ Ok e → IsEnding e × (fs ≡ verdict_row e)
verdict_back fs e h = go (has_word 1 (codes "optimal") fs) h
  where
    go : (t : Bool) → (if t then optimal_of fs else gap_of fs) ≡ Ok e → IsEnding e × (fs ≡ verdict_row e)
    go true k = optimal_back fs e k
    go false k = gap_back fs e k
