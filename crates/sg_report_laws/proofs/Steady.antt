-- What readers tell, where more bytes stand behind.
use Rattle.std.proofs.Common.{◌≡◌, ◌≢◌, ◌⊎◌, ℕ, zero, suc, ◌+◌, ◌≤◌, Bool, true, false, cond, List, [], ◌∷◌, ◌++◌, length, Option, Some, None, Result, Ok, Err, inl, inr, refl, sym, ap, subst, ◌∙◌, arith}
use Rattle.std.specs.Prelude.{◌==◌}
use Rattle.sg_cert.specs.Place.{Place}
use Rattle.sg_cert.specs.declared.fault.ReportFault.{ReportFault}
use Rattle.sg_cert.specs.Fields.{fields, split_once}
use Rattle.sg_model.specs.Steps.{◌>>=◌}
use Rattle.sg_cert.specs.Lines.{at_line, line_at, line_cut}
use Rattle.sg_cert.specs.Reading.{Read, repeat}
use Rattle.sg_report_laws.specs.Faults.{newlines}
use Rattle.sg_report_laws.proofs.Cuts.{IsCut, Parts, is_cut}
use Rattle.sg_report_laws.proofs.LineFaults.{IsOther}

-- the same place with more bytes behind
abbrev pub behind : Place → List ℕ → Place
behind p more = record { rest = p.rest ++ more; line = p.line }

-- the number of the last line read and of those that are left
abbrev pub lines_to : Place → ℕ
lines_to p = p.line + newlines p.rest

-- reading stands at this line or later, or was refused there or later
abbrev pub Late : {A : Type 0} → ℕ → Read A → Type 0
Late n (Ok y) = n ≤ y.1.line
Late n (Err f) = n ≤ f.line

-- the same of what is read up to the end of the bytes
abbrev pub EndsLate : {B : Type 0} → ℕ → Result B ReportFault → Type 0
EndsLate n (Ok y) = Unit {0}
EndsLate n (Err f) = n ≤ f.line

-- A missing line is that behind the last newline, and then reading is late with more bytes behind. Another fault stays,
-- and is of a line that is there, but for bytes behind the last line.
abbrev pub FaultKeeps : Place → ReportFault → Type 0 → Type 0 → Type 0
FaultKeeps p f IsLate Stays = ((f.reason ≡ 2) × ((f.line ≡ lines_to p + 1) × IsLate)) ⊎ ((f.reason ≢ 2) × ((f.reason ≢ 9 → f.line ≤ lines_to p) × Stays))

-- how far a reader moved on
abbrev pub IsOn : Place → Place → Type 0
IsOn p q = (lines_to q ≡ lines_to p) × (length q.rest ≤ length p.rest)

-- what is read from a place, and what is read with more bytes behind
abbrev pub IsKept : {A : Type 0} → Place → List ℕ → Read A → Read A → Type 0
IsKept p more (Ok y) later = (later ≡ Ok (y.0, behind y.1 more)) × IsOn p y.1
IsKept p more (Err f) later = FaultKeeps p f (Late (lines_to p + 1) later) (later ≡ Err f)

abbrev pub Keeps : {A : Type 0} → Place → List ℕ → Read A → Read A → Type 0
Keeps p more r later = Late p.line r × IsKept p more r later

-- bytes behind the last line
abbrev pub nine : Place → ReportFault
nine p = record { line = lines_to p + 1; reason = 9 }

-- the same of what is read up to the end of the bytes
abbrev pub IsEnd : {B : Type 0} → Place → List ℕ → Result B ReportFault → Result B ReportFault → Type 0
IsEnd p more (Ok y) later = later ≡ cond (length more == 0) (Ok y) (Err (nine p))
IsEnd p more (Err f) later = FaultKeeps p f (EndsLate (lines_to p + 1) later) (later ≡ Err f)

abbrev pub Ends : {B : Type 0} → Place → List ℕ → Result B ReportFault → Result B ReportFault → Type 0
Ends p more r later = EndsLate p.line r × IsEnd p more r later

-- ---- later places

pub late_from : {A : Type 0} (n m : ℕ) (r : Read A) → n ≤ m → Late m r → Late n r
late_from n m (Ok y) le h = omega (arith, le, h)
late_from n m (Err f) le h = omega (arith, le, h)

ends_late_from : {B : Type 0} (n m : ℕ) (r : Result B ReportFault) → n ≤ m → EndsLate m r → EndsLate n r
ends_late_from n m (Ok y) le h = tt
ends_late_from n m (Err f) le h = omega (arith, le, h)

pub late_then : {A B : Type 0} (n : ℕ) (r : Read A) (k : A × Place → Read B) → Late n r → ((y : A × Place) → Late y.1.line (k y)) → Late n (r >>= k)
late_then n (Ok y) k h next = late_from n y.1.line (k y) h (next y)
late_then n (Err f) k h next = h

ends_late_then : {A B : Type 0} (n : ℕ) (r : Read A) (k : A × Place → Result B ReportFault) → Late n r → ((y : A × Place) → EndsLate y.1.line (k y)) → EndsLate n (r >>= k)
ends_late_then n (Ok y) k h next = ends_late_from n y.1.line (k y) h (next y)
ends_late_then n (Err f) k h next = h

ends_late_as : {A B : Type 0} (n : ℕ) (r : Result A ReportFault) (k : A → B) → EndsLate n r → EndsLate n (r >>= λ x. Ok (k x))
ends_late_as n (Ok y) k h = tt
ends_late_as n (Err f) k h = h

-- ---- from a place further on

fault_from : (p q : Place) (f : ReportFault) (L M S : Type 0) → lines_to q ≡ lines_to p → (L → M) → FaultKeeps q f L S → FaultKeeps p f M S
fault_from p q f L M S e to (inl h) = inl (h.0, (h.1.0 ∙ ap (λ (n : ℕ). n + 1) e, to h.1.1))
fault_from p q f L M S e to (inr h) = inr (h.0, ((λ other. omega (arith, h.1.0 other, e)), h.1.1))

pub keeps_from : {A : Type 0} (p q : Place) (more : List ℕ) (r later : Read A) → IsOn p q → p.line ≤ q.line → Keeps q more r later → Keeps p more r later
keeps_from p q more (Ok y) later on le h = (omega (arith, le, h.0), (h.1.0, (h.1.1.0 ∙ on.0, omega (arith, h.1.1.1, on.1))))
keeps_from p q more (Err f) later on le h =
    (omega (arith, le, h.0), fault_from p q f (Late (lines_to q + 1) later) (Late (lines_to p + 1) later) (later ≡ Err f) on.0 (λ x. subst (λ (n : ℕ). Late (n + 1) later) on.0 x) h.1)

pub ends_from : {B : Type 0} (p q : Place) (more : List ℕ) (r later : Result B ReportFault) → lines_to q ≡ lines_to p → p.line ≤ q.line → Ends q more r later → Ends p more r later
ends_from p q more (Ok y) later e le h =
    (tt, h.1 ∙ ap (λ (n : ℕ). cond (length more == 0) (Ok y) (Err (record { line = n + 1; reason = 9 }))) e)
ends_from p q more (Err f) later e le h =
    (omega (arith, le, h.0), fault_from p q f (EndsLate (lines_to q + 1) later) (EndsLate (lines_to p + 1) later) (later ≡ Err f) e (λ x. subst (λ (n : ℕ). EndsLate (n + 1) later) e x) h.1)

pub here : {A : Type 0} (p : Place) (more : List ℕ) (x : A) → Keeps p more (Ok (x, p)) (Ok (x, behind p more))
here p more x = (omega arith, (refl, (refl, omega arith)))

-- a fault, and what comes of it with more bytes behind
pub fault_then : (p : Place) (f : ReportFault) (L M S T : Type 0) → (L → M) → (S → T) → FaultKeeps p f L S → FaultKeeps p f M T
fault_then p f L M S T to on (inl h) = inl (h.0, (h.1.0, to h.1.1))
fault_then p f L M S T to on (inr h) = inr (h.0, (h.1.0, on h.1.1))

-- one reader after another
pub then : {A B : Type 0} (p : Place) (more : List ℕ) (r later : Read A) (k : A × Place → Read B)
    → Keeps p more r later → ((x : A) (q : Place) → Keeps q more (k (x, q)) (k (x, behind q more))) → Keeps p more (r >>= k) (later >>= k)
then p more (Ok y) later k h next =
    subst (λ l. Keeps p more (k y) (l >>= k)) (sym h.1.0) (keeps_from p y.1 more (k y) (k (y.0, behind y.1 more)) h.1.1 h.0 (next y.0 y.1))
then p more (Err f) later k h next = (
  h.0,
  fault_then p f (Late (lines_to p + 1) later) (Late (lines_to p + 1) (later >>= k)) (later ≡ Err f) ((later >>= k) ≡ Err f)
      (λ x. late_then (lines_to p + 1) later k x (λ y. (next y.0 y.1).0)) (λ e. ap (λ r. r >>= k) e) h.1,
)

pub then_ends : {A B : Type 0} (p : Place) (more : List ℕ) (r later : Read A) (k : A × Place → Result B ReportFault)
    → Keeps p more r later → ((x : A) (q : Place) → Ends q more (k (x, q)) (k (x, behind q more))) → Ends p more (r >>= k) (later >>= k)
then_ends p more (Ok y) later k h next =
    subst (λ l. Ends p more (k y) (l >>= k)) (sym h.1.0) (ends_from p y.1 more (k y) (k (y.0, behind y.1 more)) h.1.1.0 h.0 (next y.0 y.1))
then_ends p more (Err f) later k h next = (
  h.0,
  fault_then p f (Late (lines_to p + 1) later) (EndsLate (lines_to p + 1) (later >>= k)) (later ≡ Err f) ((later >>= k) ≡ Err f)
      (λ x. ends_late_then (lines_to p + 1) later k x (λ y. (next y.0 y.1).0)) (λ e. ap (λ r. r >>= k) e) h.1,
)

-- a value made of what was read up to the end
pub ends_as : {A B : Type 0} (p : Place) (more : List ℕ) (r later : Result A ReportFault) (k : A → B) → Ends p more r later → Ends p more (r >>= λ x. Ok (k x)) (later >>= λ x. Ok (k x))
ends_as p more (Ok y) later k h = (tt, ap (λ r. r >>= λ x. Ok (k x)) h.1 ∙ by_test (length more == 0))
  where
    by_test : (b : Bool) → (cond b (Ok y) (Err (nine p)) >>= λ x. Ok (k x)) ≡ cond b (Ok (k y)) (Err (nine p))
    by_test true = refl
    by_test false = refl
ends_as p more (Err f) later k h = (
  h.0,
  fault_then p f (EndsLate (lines_to p + 1) later) (EndsLate (lines_to p + 1) (later >>= λ x. Ok (k x))) (later ≡ Err f) ((later >>= λ x. Ok (k x)) ≡ Err f)
      (λ x. ends_late_as (lines_to p + 1) later k x) (λ e. ap (λ r. r >>= λ x. Ok (k x)) e) h.1,
)

-- a test within the last line, and what follows
pub within : {A B : Type 0} (p : Place) (more : List ℕ) (r : Result A ℕ) (k later : A → Read B)
    → IsOther r → ((x : A) → Keeps p more (k x) (later x)) → Keeps p more (at_line p r >>= k) (at_line (behind p more) r >>= later)
within p more (Ok x) k later h next = next x
within p more (Err e) k later h next = (omega arith, inr (h, ((λ other. omega arith), refl)))

-- a choice
pub either : {A : Type 0} (p : Place) (more : List ℕ) (b : Bool) (x y u v : Read A) → Keeps p more x u → Keeps p more y v → Keeps p more (cond b x y) (cond b u v)
either p more true x y u v h k = h
either p more false x y u v h k = k

-- a fault of another reason in the last line
pub refused : {A : Type 0} (p : Place) (more : List ℕ) (reason : ℕ) → reason ≢ 2 → Keeps {A = A} p more (Err (record { line = p.line; reason = reason })) (Err (record { line = p.line; reason = reason }))
refused p more reason h = (omega arith, inr (h, ((λ other. omega arith), refl)))

-- ---- lines

-- the next line, and that it takes a byte at least
abbrev pub LineKeeps : Place → List ℕ → Read (List ℕ) → Read (List ℕ) → Type 0
LineKeeps p more (Ok y) later = (later ≡ Ok (y.0, behind y.1 more)) × ((lines_to y.1 ≡ lines_to p) × (suc (length y.1.rest) ≤ length p.rest))
LineKeeps p more (Err f) later = (f.reason ≡ 2) × ((f.line ≡ lines_to p + 1) × Late (lines_to p + 1) later)

cut_late : (n : ℕ) (o : Option Parts) → Late n (line_cut n o)
cut_late n None = omega arith
cut_late n (Some parts) = omega arith

pub line_late : (p : Place) → Late (p.line + 1) (line_at p)
unfolding line_at
line_late p = cut_late (p.line + 1) (split_once 10 p.rest)

cut_keeps : (p : Place) (more : List ℕ) (o : Option Parts) → IsCut p.rest more o → LineKeeps p more (line_cut (p.line + 1) o) (line_cut (p.line + 1) (split_once 10 (p.rest ++ more)))
cut_keeps p more None h =
    let e : p.line + 1 ≡ lines_to p + 1 = omega (arith, h) in
    (refl, (e, subst (λ (n : ℕ). Late n (line_cut (p.line + 1) (split_once 10 (p.rest ++ more)))) e (cut_late (p.line + 1) (split_once 10 (p.rest ++ more)))))
cut_keeps p more (Some parts) h = (ap (line_cut (p.line + 1)) h.0, (omega (arith, h.1.0), h.1.1))

pub line_keeps : (p : Place) (more : List ℕ) → LineKeeps p more (line_at p) (line_at (behind p more))
unfolding line_at
line_keeps p more = cut_keeps p more (split_once 10 p.rest) (is_cut p.rest more)

looser : (p : Place) (more : List ℕ) (r later : Read (List ℕ)) → Late (p.line + 1) r → LineKeeps p more r later → Keeps p more r later
looser p more (Ok y) later late h = (omega (arith, late), (h.0, (h.1.0, omega (arith, h.1.1))))
looser p more (Err f) later late h = (omega (arith, late), inl h)

pub one_line : (p : Place) (more : List ℕ) → Keeps p more (line_at p) (line_at (behind p more))
one_line p more = looser p more (line_at p) (line_at (behind p more)) (line_late p) (line_keeps p more)

-- a reader of one line
pub line_of : {A : Type 0} (parse : List (List ℕ) → Result A ℕ) → ((fs : List (List ℕ)) → IsOther (parse fs)) → (p : Place) (more : List ℕ)
    → Keeps p more (line_at p >>= λ l. at_line l.1 (parse (fields l.0)) >>= λ y. Ok (y, l.1)) (line_at (behind p more) >>= λ l. at_line l.1 (parse (fields l.0)) >>= λ y. Ok (y, l.1))
line_of parse other p more =
    then p more (line_at p) (line_at (behind p more)) (λ l. at_line l.1 (parse (fields l.0)) >>= λ y. Ok (y, l.1)) (one_line p more)
    (λ l q. within q more (parse (fields l)) (λ y. Ok (y, q)) (λ y. Ok (y, behind q more)) (other (fields l)) (λ y. here q more y))

-- readers one after another
pub repeat_keeps : {A : Type 0} (item : List A → Place → Read A) (more : List ℕ) → ((done : List A) (p : Place) → Keeps p more (item done p) (item done (behind p more)))
    → (n : ℕ) (done : List A) (p : Place) → Keeps p more (repeat item done n p) (repeat item done n (behind p more))
unfolding repeat
repeat_keeps item more each zero done p = here p more done
repeat_keeps item more each (suc n) done p =
    then p more (item done p) (item done (behind p more)) (λ x. repeat item (done ++ x.0 ∷ []) n x.1) (each done p) (λ x q. repeat_keeps item more each n (done ++ x ∷ []) q)
