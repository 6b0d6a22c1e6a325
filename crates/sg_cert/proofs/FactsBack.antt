-- A fact or a cap that was read is what its bytes spell, and in its ranges.
use Rattle.std.proofs.Common.{◌≡◌, ℕ, suc, zero, Bool, true, false, List, [], ◌∷◌, ◌++◌, length, map, Option, None, Ok, ℤ, refl, sym, ap, subst, ◌∙◌, arith, append_assoc}
use Rattle.std.specs.Prelude.{codes, decimal}
use Rattle.std.specs.Fmt.{signed_decimal}
use Rattle.std.specs.List.{AllByRecursion, flat_map}
use Rattle.std.proofs.lemmas.List.{append-nil}
use Rattle.sg_tree.specs.declared.fact.Mark.{Mark}
use Rattle.sg_tree.specs.declared.fact.Line.{Line}
use Rattle.sg_tree.specs.declared.fact.Fact.{Fact}
use Rattle.sg_tree.specs.declared.fact.Fact.TheVariants.{Plays, Cover}
use Rattle.sg_tree.specs.declared.report.Cap.{Cap}
use Rattle.sg_cert.specs.Place.{Place}
use Rattle.sg_cert.specs.Fields.{fields, has_word}
use Rattle.sg_model.specs.Steps.{◌>>=◌}
use Rattle.sg_cert.specs.Lines.{line_at, at_line, next_line}
use Rattle.sg_cert.specs.Reading.{Read, repeat, last, mark_at, row_at, plays_from, cover_from, water_from, fact_from, fact_at, cap_from, cap_at, line_begins, caps_at}
use Rattle.sg_cert.specs.Text.{FieldRow, text_of, mark_row, line_row, fact_rows, cap_row, cap_rows}
use Rattle.sg_cert.specs.Ranges.{Rises, IsMark, IsRangedLine, IsHeader, IsFact, IsCap}
use Rattle.sg_cert.proofs.Rows.{text_then}
use Rattle.std.specs.Prelude.{if◌then◌else◌}
use Rattle.sg_cert.specs.LineReading.{spent_of, target_of, mark_of, multiplier_of, header_of, water_of, cap_head_of}
use Rattle.sg_cert.proofs.Numbers.{bound}
use Rattle.sg_cert.proofs.Rising.{last_push}
use Rattle.sg_cert.proofs.LinesAgain.{IsWord}
use Rattle.sg_cert.proofs.LinesBack.{mark_back, row_back, header_back, spent_back, target_back, cap_line}
use Rattle.sg_cert.proofs.VerdictBack.{cap_line_back}
use Rattle.sg_cert.proofs.BlocksBack.{ok_is, never, at_line_back, Took, behind_row, one_forth, Chain, repeat_forth, single_rows}

-- one of two readings, by a test
pub either : {A : Type 0} (t : Bool) (x y : Read A) (z : A × Place) (P : Type 0) → (x ≡ Ok z → P) → (y ≡ Ok z → P) → (if t then x else y) ≡ Ok z → P
either true x y z P f g h = f h
either false x y z P f g h = g h

-- ---- facts

chain_marks : (done ms : List Mark) → Chain (λ done m. IsMark (last done) m) done ms → Rises IsMark (last done) ms
chain_marks done [] c = tt
chain_marks done (m ∷ ms) c = (c.0, subst (λ (b : Option Mark). Rises IsMark b ms) (last_push done m) (chain_marks (done ++ m ∷ []) ms c.1))

chain_rows : (done cs : List Line) → Chain (λ done c. IsRangedLine (last done) c) done cs → Rises IsRangedLine (last done) cs
chain_rows done [] c = tt
chain_rows done (r ∷ rs) c = (c.0, subst (λ (b : Option Line). Rises IsRangedLine b rs) (last_push done r) (chain_rows (done ++ r ∷ []) rs c.1))

mark_forth : (done : List Mark) (p : Place) (x : Mark × Place) → mark_at done p ≡ Ok x → Took (IsMark (last done) x.0) p.rest (mark_row x.0 ∷ []) x.1.rest
unfolding mark_at
mark_forth done p x h = one_forth (mark_of (last done)) p x (IsMark (last done) x.0) (codes "m") (decimal x.0.l ∷ decimal x.0.a ∷ signed_decimal x.0.v ∷ []) h (λ gs k. mark_back (last done) gs x.0 k)

row_of_forth : (done : List Line) (p : Place) (x : Line × Place) → row_at done p ≡ Ok x → Took (IsRangedLine (last done) x.0) p.rest (line_row x.0 ∷ []) x.1.rest
unfolding row_at
row_of_forth done p x h = one_forth (multiplier_of (last done)) p x (IsRangedLine (last done) x.0) (codes "c") (decimal x.0.row ∷ signed_decimal x.0.v ∷ []) h (λ gs k. row_back (last done) gs x.0 k)

-- what was taken behind a line, of which the fields are the first of the rows
pub record From (P : Type 0) (all : List FieldRow) (fs : FieldRow) (before after : List ℕ) : Type 0 where
  pub holds : P
  pub word : List ℕ
  pub gs : FieldRow
  pub rows : List FieldRow
  pub whole : all ≡ (word ∷ gs) ∷ rows
  pub line : fs ≡ word ∷ gs
  pub text : before ≡ text_of rows ++ after

pub from_line : (P : Type 0) (all : List FieldRow) (p : Place) (l : List ℕ × Place) (after : List ℕ) → line_at p ≡ Ok l → From P all (fields l.0) l.1.rest after → Took P p.rest all after
from_line P all p l after h f = (f.holds, behind_row p l f.word f.gs f.rows after h f.line f.text ∙ ap (λ (rows : List FieldRow). text_of rows ++ after) (sym f.whole))

word_plays : IsWord (codes "plays")
word_plays = record { one = refl; same = refl; no_place = refl }

word_cover : IsWord (codes "cover")
word_cover = record { one = refl; same = refl; no_place = refl }

abbrev pub FactFrom : FieldRow → Place → Fact × Place → Type 0
FactFrom fs p x = From (IsFact x.0) (fact_rows x.0) fs p.rest x.1.rest

plays_forth : (fs : FieldRow) (p : Place) (x : Fact × Place) → plays_from fs p ≡ Ok x → FactFrom fs p x
unfolding plays_from
plays_forth fs p x h =
    let a = bound (at_line p (header_of (codes "plays") fs)) _ x h in
    let n = header_back (codes "plays") fs a.0 word_plays (at_line_back p (header_of (codes "plays") fs) a.0 a.1.0) in
    let b = bound (repeat mark_at [] a.0.2 p) _ x a.1.1 in
    let i = repeat_forth mark_at (λ done m. IsMark (last done) m) (λ m. mark_row m ∷ []) mark_forth [] a.0.2 p b.0 b.1.0 in
    let e : (Plays a.0.0 a.0.1 b.0.0, b.0.1) ≡ x = ok_is (Plays a.0.0 a.0.1 b.0.0, b.0.1) x b.1.1 in
    let count : a.0.2 ≡ length b.0.0 = sym i.count ∙ ap length i.all in
    subst (λ (y : Fact × Place). FactFrom fs p y) e (record {
      holds = (subst (λ (k : ℕ). IsHeader a.0.0 a.0.1 k) count n.0, subst (λ (ms : List Mark). Rises IsMark None ms) i.all (chain_marks [] i.more i.chain));
      word = codes "plays";
      gs = signed_decimal a.0.0 ∷ signed_decimal a.0.1 ∷ decimal (length b.0.0) ∷ [];
      rows = map mark_row b.0.0;
      whole = refl;
      line = n.1 ∙ ap (λ (k : ℕ). codes "plays" ∷ signed_decimal a.0.0 ∷ signed_decimal a.0.1 ∷ decimal k ∷ []) count;
      text = i.text ∙ ap (λ (rows : List FieldRow). text_of rows ++ b.0.1.rest) (single_rows mark_row i.more ∙ ap (map mark_row) i.all);
    })

cover_forth : (fs : FieldRow) (p : Place) (x : Fact × Place) → cover_from fs p ≡ Ok x → FactFrom fs p x
unfolding cover_from
cover_forth fs p x h =
    let a = bound (at_line p (header_of (codes "cover") fs)) _ x h in
    let n = header_back (codes "cover") fs a.0 word_cover (at_line_back p (header_of (codes "cover") fs) a.0 a.1.0) in
    let b = bound (repeat row_at [] a.0.2 p) _ x a.1.1 in
    let i = repeat_forth row_at (λ done c. IsRangedLine (last done) c) (λ c. line_row c ∷ []) row_of_forth [] a.0.2 p b.0 b.1.0 in
    let e : (Cover a.0.0 a.0.1 b.0.0, b.0.1) ≡ x = ok_is (Cover a.0.0 a.0.1 b.0.0, b.0.1) x b.1.1 in
    let count : a.0.2 ≡ length b.0.0 = sym i.count ∙ ap length i.all in
    subst (λ (y : Fact × Place). FactFrom fs p y) e (record {
      holds = (subst (λ (k : ℕ). IsHeader a.0.0 a.0.1 k) count n.0, subst (λ (cs : List Line). Rises IsRangedLine None cs) i.all (chain_rows [] i.more i.chain));
      word = codes "cover";
      gs = signed_decimal a.0.0 ∷ signed_decimal a.0.1 ∷ decimal (length b.0.0) ∷ [];
      rows = map line_row b.0.0;
      whole = refl;
      line = n.1 ∙ ap (λ (k : ℕ). codes "cover" ∷ signed_decimal a.0.0 ∷ signed_decimal a.0.1 ∷ decimal k ∷ []) count;
      text = i.text ∙ ap (λ (rows : List FieldRow). text_of rows ++ b.0.1.rest) (single_rows line_row i.more ∙ ap (map line_row) i.all);
    })

two_same : {x y : Fact} {p q : Place} → x ≡ y → p ≡ q → ◌≡◌ {A = Fact × Place} (x, p) (y, q)
two_same e k = cc

spent_from : (fs : FieldRow) (p q : Place) (f : Fact) → p ≡ q → spent_of fs ≡ Ok f → FactFrom fs p (f, q)
spent_from fs p q f e h =
    let b = spent_back fs f h in
    subst (λ (y : Fact × Place). FactFrom fs p y) (two_same b.1.0 e) (record {
      holds = (b.1.1.0, tt);
      word = codes "water";
      gs = signed_decimal b.0.num ∷ signed_decimal b.0.den ∷ codes "resources" ∷ [];
      rows = [];
      whole = refl;
      line = b.1.1.1;
      text = refl;
    })

target_from : (fs : FieldRow) (p q : Place) (f : Fact) → p ≡ q → target_of fs ≡ Ok f → FactFrom fs p (f, q)
target_from fs p q f e h =
    let b = target_back fs f h in
    subst (λ (y : Fact × Place). FactFrom fs p y) (two_same b.1.1.0 e) (record {
      holds = (b.1.1.1.0.0, b.1.1.1.0.1);
      word = codes "water";
      gs = signed_decimal b.0.num ∷ signed_decimal b.0.den ∷ codes "target" ∷ decimal b.1.0 ∷ [];
      rows = [];
      whole = refl;
      line = b.1.1.1.1;
      text = refl;
    })

water_forth : (fs : FieldRow) (p : Place) (x : Fact × Place) → water_from fs p ≡ Ok x → FactFrom fs p x
unfolding water_from
water_forth fs p x h =
    let a = bound (at_line p (water_of fs)) (λ y. Ok (y, p)) x h in
    let e : (a.0, p) ≡ x = ok_is (a.0, p) x a.1.1 in
    subst (λ (y : Fact × Place). FactFrom fs p y) e (go (has_word 3 (codes "resources") fs) a.0 (at_line_back p (water_of fs) a.0 a.1.0))
  where
    go : (t : Bool) (f : Fact) → (if t then spent_of fs else target_of fs) ≡ Ok f → FactFrom fs p (f, p)
    go true f k = spent_from fs p p f refl k
    go false f k = target_from fs p p f refl k

pub fact_forth : (fs : FieldRow) (p : Place) (x : Fact × Place) → fact_from fs p ≡ Ok x → FactFrom fs p x
fact_forth fs p x =
    either (has_word 0 (codes "plays") fs) (plays_from fs p) _ x (FactFrom fs p x) (plays_forth fs p x)
    (either (has_word 0 (codes "cover") fs) (cover_from fs p) _ x (FactFrom fs p x) (cover_forth fs p x)
    (either (has_word 0 (codes "water") fs) (water_from fs p) _ x (FactFrom fs p x) (water_forth fs p x)
    (λ h. absurd (never _ x h))))

fact_at_forth : (p : Place) (x : Fact × Place) → fact_at p ≡ Ok x → Took (IsFact x.0) p.rest (fact_rows x.0) x.1.rest
unfolding fact_at
fact_at_forth p x h =
    let a = bound (line_at p) (λ l. fact_from (fields l.0) l.1) x h in
    from_line (IsFact x.0) (fact_rows x.0) p a.0 x.1.rest a.1.0 (fact_forth (fields a.0.0) a.0.1 x a.1.1)

-- ---- caps

each_fact : (done fs : List Fact) → Chain (λ done f. IsFact f) done fs → AllByRecursion IsFact fs
each_fact done [] c = tt
each_fact done (f ∷ fs) c = (c.0, each_fact (done ++ f ∷ []) fs c.1)

cap_front : (l : ℕ) (v : ℤ) (proof : List Fact) → (gs : FieldRow) × ((cap_row (record { l = l; v = v; proof = proof }) ≡ codes "cap" ∷ gs) × (cap_line (l, v, length proof) ≡ codes "cap" ∷ gs))
cap_front l v [] = (decimal l ∷ codes "plain" ∷ signed_decimal v ∷ [], (refl, refl))
cap_front l v (f ∷ fs) = (decimal l ∷ codes "proved" ∷ signed_decimal v ∷ decimal (length (f ∷ fs)) ∷ [], (refl, refl))

cap_forth : (p : Place) (x : Cap × Place) → cap_at p ≡ Ok x → Took (IsCap x.0) p.rest (cap_rows x.0) x.1.rest
unfolding cap_at cap_from
cap_forth p x h =
    let a = bound (line_at p) (λ l. cap_from (fields l.0) l.1) x h in
    let b = bound (at_line a.0.1 (cap_head_of (fields a.0.0))) _ x a.1.1 in
    let n = cap_line_back (fields a.0.0) b.0 (at_line_back a.0.1 (cap_head_of (fields a.0.0)) b.0 b.1.0) in
    let c = bound (repeat (λ done q. fact_at q) [] b.0.2 a.0.1) _ x b.1.1 in
    let i = repeat_forth (λ done q. fact_at q) (λ done f. IsFact f) fact_rows (λ done q y k. fact_at_forth q y k) [] b.0.2 a.0.1 c.0 c.1.0 in
    let e : (record { l = b.0.0; v = b.0.1; proof = c.0.0 }, c.0.1) ≡ x = ok_is (record { l = b.0.0; v = b.0.1; proof = c.0.0 }, c.0.1) x c.1.1 in
    let count : length c.0.0 ≡ b.0.2 = ap length (sym i.all) ∙ i.count in
    let f = cap_front b.0.0 b.0.1 c.0.0 in
    let head : fields a.0.0 ≡ codes "cap" ∷ f.0 = n.1 ∙ ap (λ (k : ℕ). cap_line (b.0.0, b.0.1, k)) (sym count) ∙ f.1.1 in
    let text : a.0.1.rest ≡ text_of (flat_map fact_rows c.0.0) ++ c.0.1.rest = i.text ∙ ap (λ (fs : List Fact). text_of (flat_map fact_rows fs) ++ c.0.1.rest) i.all in
    subst (λ (y : Cap × Place). Took (IsCap y.0) p.rest (cap_rows y.0) y.1.rest) e (
      record { l = n.0.0; v = n.0.1; count = omega (arith, count, n.0.2); proof = subst (λ (fs : List Fact). AllByRecursion IsFact fs) i.all (each_fact [] i.more i.chain) },
      behind_row p a.0 (codes "cap") f.0 (flat_map fact_rows c.0.0) c.0.1.rest a.1.0 head text
          ∙ ap (λ (row : FieldRow). text_of (row ∷ flat_map fact_rows c.0.0) ++ c.0.1.rest) (sym f.1.0),
    )

pub record CapsBack (done cs : List Cap) (before after : List ℕ) : Type 0 where
  pub more : List Cap
  pub all : done ++ more ≡ cs
  pub each : AllByRecursion IsCap more
  pub text : before ≡ text_of (flat_map cap_rows more) ++ after

caps_stop : (done : List Cap) (p : Place) (x : List Cap × Place) → ◌≡◌ {A = Read (List Cap)} (Ok (done, p)) (Ok x) → CapsBack done x.0 p.rest x.1.rest
caps_stop done p x h = subst (λ (y : List Cap × Place). CapsBack done y.0 p.rest y.1.rest) (ok_is (done, p) x h) (record { more = []; all = append-nil done; each = tt; text = refl })

pub caps_forth : (done : List Cap) (n : ℕ) (p : Place) (x : List Cap × Place) → caps_at done n p ≡ Ok x → CapsBack done x.0 p.rest x.1.rest
unfolding caps_at
caps_forth done zero p x h = caps_stop done p x h
caps_forth done (suc n) p x h =
    either (line_begins (codes "cap") (next_line p)) (cap_at p >>= λ c. caps_at (done ++ c.0 ∷ []) n c.1) (Ok (done, p)) x (CapsBack done x.0 p.rest x.1.rest)
    (λ k.
    let a = bound (cap_at p) (λ c. caps_at (done ++ c.0 ∷ []) n c.1) x k in
    let f = cap_forth p a.0 a.1.0 in
    let ih = caps_forth (done ++ a.0.0 ∷ []) n a.0.1 x a.1.1 in
    record {
      more = a.0.0 ∷ ih.more;
      all = sym (append_assoc done (a.0.0 ∷ []) ih.more) ∙ ih.all;
      each = (f.0, ih.each);
      text = f.1 ∙ ap (λ (t : List ℕ). text_of (cap_rows a.0.0) ++ t) ih.text ∙ sym (append_assoc (text_of (cap_rows a.0.0)) (text_of (flat_map cap_rows ih.more)) x.1.rest)
          ∙ ap (λ (t : List ℕ). t ++ x.1.rest) (sym (text_then (cap_rows a.0.0) (flat_map cap_rows ih.more)));
    })
    (caps_stop done p x) h
