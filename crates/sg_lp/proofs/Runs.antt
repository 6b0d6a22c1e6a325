-- Runs of the method: there is one, its multipliers rise, no basis comes twice, and it is no longer than there are bases.
use Rattle.std.proofs.Common.{◌≡◌, ◌≢◌, ℕ, zero, suc, ◌+◌, ◌<◌, ◌≤◌, List, [], ◌∷◌, Bool, map, length, refl, ap, arith, sym, ◌∙◌, subst}
use Rattle.std.specs.Prelude.{All, length}
use Rattle.std.proofs.lemmas.List.{length-map}
use Rattle.std.proofs.lemmas.List.Elements.{All-cons, All-head, All-nil, All-tail}
use Rattle.sg_linear.proofs.Choices.{Distinct, Each, IsChoice, length-choices}
use Rattle.sg_linear.proofs.Chosen.{chosen, chosen-choice, same-chosen}
use Rattle.sg_linear.proofs.MoveLaws.{move-rises}
use Rattle.sg_linear.proofs.RunLaws.{above-trans, same-members}
use Rattle.sg_rows.specs.Rows.{place}
use Rattle.sg_lp.specs.Programs.{IsMember, IsWithinLimits, Program, enough_pivots, member_cost, member_entry}
use Rattle.sg_lp.specs.States.{AreApart, HaveSameBasis, IsTableau, StandsAbove, Tableau, member_at, row_at}
use Rattle.sg_lp.specs.Moves.{IsNext, Runs}
use Rattle.sg_lp.specs.declared.column.Enter.TheVariants.{Slack}
use Rattle.sg_lp.proofs.Nexts.{next-one}
use Rattle.sg_lp.proofs.Numbered.{number-below, number-one, number_of}
use Rattle.sg_lp.proofs.Starts.{start_state}

pub next-rises : (p : Program) (t u : Tableau) → IsTableau p t → IsNext p t u → StandsAbove p u t
next-rises p t u st n =
    move-rises p.height (member_entry p) (member_cost p) (member_at t) (λ i. place (row_at t i)) (place t.y) t.rho n.entering n.leaving (member_at u) (λ i. place (row_at u i)) (place u.y) u.rho st.state n.moves

pub run-state : (p : Program) → IsWithinLimits p → (k : ℕ) (t : Tableau) → Runs p k t → IsTableau p t
run-state p s zero t e = subst (IsTableau p) (sym e) (start_state p s)
run-state p s (suc k) t r = r.2.state

pub run-one : (p : Program) → IsWithinLimits p → (k : ℕ) (t u : Tableau) → Runs p k t → Runs p k u → t ≡ u
run-one p s zero t u a b = a ∙ sym b
run-one p s (suc k) t u a b =
    let e = run-one p s k a.0 b.0 a.1 b.1 in
    next-one p a.0 t u (run-state p s k a.0 a.1) a.2 (subst (λ (x : Tableau). IsNext p x u) (sym e) b.2)

-- multipliers m + 1 moves on stand above those d moves before
above : (p : Program) → IsWithinLimits p → (d k m : ℕ) → m ≡ d + k → (t u : Tableau) → Runs p k t → Runs p (suc m) u → StandsAbove p u t
above p s zero k m e t u a b =
    let is : m ≡ k = omega arith in
    let same = run-one p s k t b.0 a (subst (λ (j : ℕ). Runs p j b.0) is b.1) in
    subst (λ (x : Tableau). StandsAbove p u x) (sym same) (next-rises p b.0 u (run-state p s m b.0 b.1) b.2)
above p s (suc d) k zero e t u a b = absurd (omega arith)
above p s (suc d) k (suc m) e t u a b =
    let w = b.0 in
    let sw = run-state p s (suc m) w b.1 in
    above-trans p.height (place t.y) t.rho (place w.y) w.rho (place u.y) u.rho (run-state p s k t a).state.scaled sw.state.scaled b.2.state.state.scaled
    (above p s d k m (omega arith) t w a b.1) (next-rises p w u sw b.2)

pub run-rises : (p : Program) → IsWithinLimits p → (k m : ℕ) (t u : Tableau) → Runs p k t → Runs p m u → k < m → StandsAbove p u t
run-rises p s k zero t u a b h = absurd (omega arith)
run-rises p s k (suc m) t u a b h = go (differ k m (omega arith))
  where
    differ : (k m : ℕ) → k ≤ m → (d : ℕ) × (m ≡ d + k)
    differ zero m h = (m, omega arith)
    differ (suc k) zero h = absurd (omega arith)
    differ (suc k) (suc m) h = let r = differ k m (omega arith) in (r.0, (let e = r.1 in omega arith))

    go : (d : ℕ) × (m ≡ d + k) → StandsAbove p u t
    go r = above p s r.0 k m r.1 t u a b

-- no basis comes twice
pub never_twice : (p : Program) → IsWithinLimits p → (k m : ℕ) (t u : Tableau) → Runs p k t → Runs p m u → k < m → HaveSameBasis p t u → ⊥
never_twice p s k m t u a b h same =
    same-members p.height (member_entry p) (member_cost p) (member_at t) (λ i. place (row_at t i)) (place t.y) t.rho (member_at u) (λ i. place (row_at u i)) (place u.y) u.rho
    (run-state p s k t a).state (run-state p s m u b).state same (run-rises p s k m t u a b h)

-- ---- how many bases there are
module _ (p : Program) where
  abbrev members : ℕ
  members = p.height + length p.columns

  abbrev choice : Tableau → List Bool
  choice t = chosen p.height members (member_entry p) (member_cost p) (number_of p) (IsMember p) (number-below p) (number-one p) (member_at t)

  basis_members : (t : Tableau) → IsTableau p t → (k : ℕ) → k < p.height → IsMember p (member_at t k)
  basis_members t st k h = st.shaped.members k (Slack 0) (let l = st.shaped.basis_long in omega arith)

  same_choice : (t u : Tableau) → IsTableau p t → IsTableau p u → choice t ≡ choice u → HaveSameBasis p t u
  same_choice t u st su e =
      same-chosen p.height members (member_entry p) (member_cost p) (number_of p) (IsMember p) (number-below p) (number-one p) (member_at t) (member_at u) (basis_members t st) (basis_members u su) e

  is_choice : (t : Tableau) → IsTableau p t → IsChoice members p.height (choice t)
  is_choice t st =
      chosen-choice p.height members (member_entry p) (member_cost p) (number_of p) (IsMember p) (number-below p) (number-one p) (member_at t) (λ i. place (row_at t i)) (place t.y) t.rho st.state (basis_members t st)

  all_choices : (ts : List Tableau) → All (IsTableau p) ts → Each (IsChoice members p.height) (map choice ts)
  all_choices [] h = tt
  all_choices (t ∷ ts) h = (is_choice t (All-head (IsTableau p) t ts h), all_choices ts (All-tail (IsTableau p) t ts h))

  others_apart : (t : Tableau) (ts : List Tableau) → IsTableau p t → All (IsTableau p) ts → All (λ u. ¬ (HaveSameBasis p u t)) ts → Each (λ f. choice t ≢ f) (map choice ts)
  others_apart t [] st h a = tt
  others_apart t (u ∷ us) st h a = (
    λ e. All-head (λ (x : Tableau). ¬ (HaveSameBasis p x t)) u us a (same_choice u t (All-head (IsTableau p) u us h) st (sym e)),
    others_apart t us st (All-tail (IsTableau p) u us h) (All-tail (λ (x : Tableau). ¬ (HaveSameBasis p x t)) u us a),
  )

  all_apart : (ts : List Tableau) → All (IsTableau p) ts → AreApart p ts → Distinct (map choice ts)
  all_apart [] h a = tt
  all_apart (t ∷ ts) h a =
      (others_apart t ts (All-head (IsTableau p) t ts h) (All-tail (IsTableau p) t ts h) a.0, all_apart ts (All-tail (IsTableau p) t ts h) a.1)

  pub few_bases : (ts : List Tableau) → All (IsTableau p) ts → AreApart p ts → length ts ≤ enough_pivots p
  few_bases ts h a =
      let l = length-choices members p.height (map choice ts) (all_choices ts h) (all_apart ts h a) in
      let e = length-map ts choice in
      omega arith

-- ---- a run is no longer than that
visited : (p : Program) (k : ℕ) (t : Tableau) → Runs p k t → List Tableau
visited p zero t r = t ∷ []
visited p (suc k) t r = t ∷ visited p k r.0 r.1

length-visited : (p : Program) (k : ℕ) (t : Tableau) (r : Runs p k t) → length (visited p k t r) ≡ suc k
unfolding visited
length-visited p zero t r = refl
length-visited p (suc k) t r = ap suc (length-visited p k r.0 r.1)

all_states : (p : Program) → IsWithinLimits p → (k : ℕ) (t : Tableau) (r : Runs p k t) → All (IsTableau p) (visited p k t r)
unfolding visited
all_states p s zero t r = All-cons (IsTableau p) t [] (run-state p s zero t r) (All-nil (IsTableau p))
all_states p s (suc k) t r = All-cons (IsTableau p) t (visited p k r.0 r.1) (run-state p s (suc k) t r) (all_states p s k r.0 r.1)

earlier : (p : Program) → IsWithinLimits p → (m : ℕ) (u : Tableau) → Runs p m u → (k : ℕ) (t : Tableau) (r : Runs p k t) → k < m → All (λ x. ¬ (HaveSameBasis p x u)) (visited p k t r)
unfolding visited
earlier p s m u b zero t r h = All-cons (λ (x : Tableau). ¬ (HaveSameBasis p x u)) t [] (never_twice p s zero m t u r b h) (All-nil (λ (x : Tableau). ¬ (HaveSameBasis p x u)))
earlier p s m u b (suc k) t r h =
    All-cons (λ (x : Tableau). ¬ (HaveSameBasis p x u)) t (visited p k r.0 r.1) (never_twice p s (suc k) m t u r b h) (earlier p s m u b k r.0 r.1 (omega arith))

all_different : (p : Program) → IsWithinLimits p → (k : ℕ) (t : Tableau) (r : Runs p k t) → AreApart p (visited p k t r)
unfolding visited
all_different p s zero t r = (All-nil (λ (x : Tableau). ¬ (HaveSameBasis p x t)), tt)
all_different p s (suc k) t r = (earlier p s (suc k) t r k r.0 r.1 (omega arith), all_different p s k r.0 r.1)

pub short-run : (p : Program) → IsWithinLimits p → (k : ℕ) (t : Tableau) → Runs p k t → k < enough_pivots p
short-run p s k t r =
    let l = few_bases p (visited p k t r) (all_states p s k t r) (all_different p s k t r) in
    let e = length-visited p k t r in
    omega arith
