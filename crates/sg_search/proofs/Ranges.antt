-- The caps of a search lie between the least and the greatest that a cap can be.
use Rattle.std.proofs.Common.{◌≡◌, ◌≢◌, ◌⊎◌, ℕ, zero, suc, ◌+◌, ◌*◌, ◌/◌, ◌%◌, ◌≤◌, ◌<◌, Bool, true, false, true≢false, cond, nat_eq, List, [], ◌∷◌, length, get_or, sym, ◌∙◌, ap, subst, refl, arith, Option, Some, None, inl, inr, ⊎_elim, All, find, option_map, ℤ, pos, negsuc, ◌+ℤ◌, ◌-ℤ◌, ◌*ℤ◌, ◌≤ℤ◌, div-add-mod'}
use Rattle.std.specs.Prelude.{◌↔◌, int_div, int_lt, filter_map}
use Rattle.std.proofs.lemmas.Int.{ints}
use Rattle.std.proofs.lemmas.Bool.{cases_Bool, eq-eqb, eqb-true}
use Rattle.std.proofs.lemmas.List.Elements.{All-contains, All-head, All-tail, All-cons, All-nil}
use Rattle.sg_model.specs.declared.ticket.Ticket.{Ticket}
use Rattle.sg_model.specs.Sums.{greatest}
use Rattle.sg_model.specs.Games.{Game, action_count, attacker}
use Rattle.sg_model.specs.Payoffs.{IsPeopled, greatest_of, shift_of}
use Rattle.sg_model.specs.Commitments.{IsCommitment, sum_d, weight_total}
use Rattle.sg_model.proofs.Ints.{v, n, plus, times, same_by, le_by, le_from, same_from, mul-le, cancel-le}
use Rattle.sg_model.proofs.Best.{Takes, greatest-bounds, greatest-reached, take_of-reached}
use Rattle.sg_model.proofs.Covers.{weight_total-positive}
use Rattle.sg_tree.specs.declared.fact.Fact.{Fact}
use Rattle.sg_tree.specs.declared.fix.Fix.{Fix}
use Rattle.sg_tree.specs.declared.report.Cap.{Cap}
use Rattle.sg_tree.specs.declared.worked.Worked.{Worked}
use Rattle.sg_bounds.specs.Regions.{alone}
use Rattle.sg_bounds.specs.Facts.{HoldsFor, mu_of, no_fact, rho_of}
use Rattle.sg_bounds.specs.Caps.{IsUnderCap, cap_of}
use Rattle.sg_bounds.proofs.Caps.{Follows, empty_region, holds-mu, holds-rho, in_region, is_fix, one_le_product, sum_d-high, sum_d-low}
use Rattle.sg_search.specs.Searches.{Search, same}
use Rattle.sg_search.specs.Bounding.{cap_at, cap_facts, caps_of, fact_of, least_cap}
use Rattle.sg_search.specs.Results.{IsPointOf, IsResult, Reaches}
use Rattle.sg_search.proofs.Placed.{same-is}
use Rattle.sg_search.proofs.Capped.{cap-is, kept-all, kept-in, rounded-up, within}

-- ---- what holds of a worked node holds of the one that a fact is of

pub record Source (P : Worked → Type 0) (x : Fix) (f : Fact) : Type 0 where
  pub of : Worked
  pub fix : of.fix ≡ x
  pub fact : of.fact ≡ f
  pub holds : P of

none-some : {X : Type 0} {a : X} → None ≡ Some a → ⊥
none-some h = cc

some-one : {X : Type 0} {a b : X} → Some a ≡ Some b → a ≡ b
some-one h = cc

pub fact-source : (P : Worked → Type 0) (ws : List Worked) → All P ws → (x : Fix) (f : Fact) → fact_of ws x ≡ Some f → Source P x f
fact-source P [] all x f e = absurd (none-some e)
fact-source P (w ∷ ws) all x f e = ⊎_elim
    (λ yes.
    let one : fact_of (w ∷ ws) x ≡ Some w.fact = ap (λ (b : Bool). option_map (λ (v : Worked). v.fact) (cond b (Some w) (find (λ (v : Worked). same x v.fix) ws))) yes in
    record { of = w; fix = sym (same-is x w.fix yes); fact = some-one (sym one ∙ e); holds = All-head P w ws all })
    (λ no.
    let one : fact_of (w ∷ ws) x ≡ fact_of ws x = ap (λ (b : Bool). option_map (λ (v : Worked). v.fact) (cond b (Some w) (find (λ (v : Worked). same x v.fix) ws))) no in
    fact-source P ws (All-tail P w ws all) x f (sym one ∙ e))
    (cases_Bool (same x w.fix))

-- ---- a quotient rounded up

-- it is no more than a whole number whose product with the divisor reaches the number
rounded-least : (m d q : ℤ) → pos 1 ≤ℤ m → pos 1 ≤ℤ d → m ≤ℤ (q *ℤ d) → int_div (m +ℤ (d -ℤ pos 1)) d ≤ℤ q
rounded-least (negsuc m) d q low high h = absurd (omega (arith, ints, low))
rounded-least (pos m) (negsuc k) q low high h = absurd (omega (arith, ints, high))
rounded-least (pos m) (pos zero) q low high h = absurd (omega (arith, ints, high))
rounded-least (pos m) (pos (suc k)) q low high h =
    let e : pos m +ℤ (pos (suc k) -ℤ pos 1) ≡ pos (m + k) = omega (arith, ints) in
    subst (λ (z : ℤ). int_div z (pos (suc k)) ≤ℤ q) (sym e) (below ((m + k) / suc k) (div-add-mod' (m + k) (suc k)))
  where
    below : (t : ℕ) → t * suc k + (m + k) % suc k ≡ m + k → pos t ≤ℤ q
    below t a = ⊎_elim (λ le. le) (λ more. absurd
        (let c : pos t *ℤ pos (suc k) ≡ pos (t * suc k) = refl in
        let up = mul-le (q +ℤ pos 1) (pos t) (pos (suc k)) more (omega (arith, ints)) in
        let one = same_by (times (plus (v q) (n 1)) (v (pos (suc k)))) (plus (times (v q) (v (pos (suc k)))) (v (pos (suc k)))) (omega arith) in
        omega (arith, ints, a, c, up, one, h)))
        (either (pos t))
      where
        either : (x : ℤ) → (x ≤ℤ q) ⊎ ((q +ℤ pos 1) ≤ℤ x)
        either x = ⊎_elim (λ yes. inr (omega (arith, ints, yes))) (λ no. inl (omega (arith, ints, no))) (cases_Bool (int_lt q x))

-- it is at least 1
rounded-one : (m d : ℤ) → pos 1 ≤ℤ m → pos 1 ≤ℤ d → pos 1 ≤ℤ int_div (m +ℤ (d -ℤ pos 1)) d
rounded-one m d low high =
    let q : ℤ = int_div (m +ℤ (d -ℤ pos 1)) d in
    ⊎_elim (λ yes. omega (arith, ints, yes)) (λ no. absurd
    (let up = rounded-up m d low high in
    let le : q ≤ℤ pos 0 = omega (arith, ints, no) in
    let prod = mul-le q (pos 0) d le (omega (arith, ints, high)) in
    let zero_is = same_by (times (n 0) (v d)) (n 0) (omega arith) in
    omega (arith, ints, up, prod, zero_is, low)))
    (cases_Bool (int_lt (pos 0) q))

-- ---- the least cap of a fact

-- where the fact is reached
least_cap-within : (g : Game) (l : ℕ) (top : ℤ) (f : Fact) → pos 1 ≤ℤ rho_of f → pos 1 ≤ℤ (attacker g l).prior → mu_of f ≤ℤ (rho_of f *ℤ ((attacker g l).prior *ℤ (top +ℤ shift_of g)))
    → (x : ℤ) → least_cap g l f ≡ Some x → ((pos 1 -ℤ shift_of g) ≤ℤ x) × (x ≤ℤ top)
least_cap-within g l top f rho prior reach x e = by (int_lt (pos 0) (mu_of f)) refl e
  where
    by : (b : Bool) → int_lt (pos 0) (mu_of f) ≡ b
        → cond b (Some (int_div (mu_of f +ℤ ((rho_of f *ℤ (attacker g l).prior) -ℤ pos 1)) (rho_of f *ℤ (attacker g l).prior) -ℤ shift_of g)) None ≡ Some x
        → ((pos 1 -ℤ shift_of g) ≤ℤ x) × (x ≤ℤ top)
    by false q h = absurd (none-some h)
    by true q h =
        let r : ℤ = rho_of f in
        let p : ℤ = (attacker g l).prior in
        let m : ℤ = mu_of f in
        let sh : ℤ = shift_of g in
        let one = one_le_product r p rho prior in
        let positive : pos 1 ≤ℤ m = omega (arith, ints, q) in
        let d : ℤ = int_div (m +ℤ ((r *ℤ p) -ℤ pos 1)) (r *ℤ p) in
        let is : d -ℤ sh ≡ x = some-one h in
        let low = rounded-one m (r *ℤ p) positive one in
        let reach2 : m ≤ℤ ((top +ℤ sh) *ℤ (r *ℤ p)) = le_by (v m) (times (plus (v top) (v sh)) (times (v r) (v p))) (omega (arith, le_from (v m) (times (v r) (times (v p) (plus (v top) (v sh)))) reach)) in
        let high = rounded-least m (r *ℤ p) (top +ℤ sh) positive one reach2 in
        (omega (arith, ints, is, low), omega (arith, ints, is, high))

-- ---- facts that are reached

-- the multiplier of a type's reached fact is bounded by the type's greatest payoff
reached-high : (g : Game) → (l a : ℕ) → 1 ≤ l → l ≤ length g.types → 1 ≤ a → a ≤ action_count g l → (f : Fact) → pos 1 ≤ℤ rho_of f → pos 1 ≤ℤ (attacker g l).prior
    → (k : List Ticket) → Reaches g (alone l a) f k → mu_of f ≤ℤ (rho_of f *ℤ ((attacker g l).prior *ℤ (greatest_of g l +ℤ shift_of g)))
reached-high g l a from_one in_range low high f rho prior k reaches =
    let is_k = reaches.commitment in
    let s : ℤ = sum_d g k l a in
    let sh : ℤ = shift_of g in
    let w : ℤ = weight_total k in
    let p : ℤ = (attacker g l).prior in
    let r : ℤ = rho_of f in
    let top : ℤ = greatest_of g l in
    let x : ℤ = p *ℤ (s +ℤ (sh *ℤ w)) in
    let equal : r *ℤ (x +ℤ pos 0) ≡ mu_of f *ℤ w = reaches.equal in
    let positive = weight_total-positive k is_k.some is_k.positive in
    let one = one_le_product r p rho prior in
    let q = sum_d-high g k is_k l a from_one in_range low high in
    let up : (s *ℤ (r *ℤ p)) ≤ℤ ((top *ℤ w) *ℤ (r *ℤ p)) = mul-le s (top *ℤ w) (r *ℤ p) q (omega (arith, ints, one)) in
    let e = same_from (times (v r) (plus (times (v p) (plus (v s) (times (v sh) (v w)))) (n 0))) (times (v (mu_of f)) (v w)) equal in
    let u = le_from (times (v s) (times (v r) (v p))) (times (times (v top) (v w)) (times (v r) (v p))) up in
    cancel-le (mu_of f) (r *ℤ (p *ℤ (top +ℤ sh))) w
    (le_by (times (v (mu_of f)) (v w)) (times (times (v r) (times (v p) (plus (v top) (v sh)))) (v w)) (omega (arith, e, u)))
    positive

-- ---- one cap

-- all of what is kept of a list is so, where it is so of what each item gives
kept-each : (P : ℤ → Type 0) (h : Fact → Option ℤ) (fs : List Fact) → ((i : ℕ) → i < length fs → (x : ℤ) → h (get_or fs i no_fact) ≡ Some x → P x) → All P (filter_map h fs)
kept-each P h [] each = All-nil P
kept-each P h (f ∷ fs) each = by (h f) refl (kept-each P h fs (λ i lt x e. each (suc i) (omega (arith, lt)) x e))
  where
    by : (o : Option ℤ) → h f ≡ o → All P (filter_map h fs) → All P (Rattle.std.specs.List.cons_option o (filter_map h fs))
    by None e rest = rest
    by (Some x) e rest = All-cons P x (filter_map h fs) (each 0 (omega arith) x e) rest

-- where one item gives something, something is kept
kept-some : (h : Fact → Option ℤ) (fs : List Fact) (i : ℕ) (x : ℤ) → i < length fs → h (get_or fs i no_fact) ≡ Some x → filter_map h fs ≢ []
kept-some h [] i x lt e = absurd (omega (arith, lt))
kept-some h (f ∷ fs) zero x lt e = subst (λ (o : Option ℤ). Rattle.std.specs.List.cons_option o (filter_map h fs) ≢ []) (sym e) (λ q. cc)
kept-some h (f ∷ fs) (suc i) x lt e = by (h f) (kept-some h fs i x (omega (arith, lt)) e)
  where
    by : (o : Option ℤ) → filter_map h fs ≢ [] → Rattle.std.specs.List.cons_option o (filter_map h fs) ≢ []
    by None q = q
    by (Some y) q = λ e. cc

abbrev pub IsBetween : Game → ℕ → ℤ → Type 0
IsBetween g l x = ((pos 1 -ℤ shift_of g) ≤ℤ x) × (x ≤ℤ greatest_of g l)

module _ (g : Game) (peopled : IsPeopled g) (s : Search) (results : All (IsResult g) s.worked) (first : List Ticket) (is_first : IsCommitment g first) where
  -- a fact of a cap node, with what it came of
  cap-fact : (l i : ℕ) → length (cap_facts g s l) ≡ action_count g l → i < action_count g l → Source (IsResult g) (alone l (suc i)) (get_or (cap_facts g s l) i no_fact)
  cap-fact l i long lt =
      let q = kept-all (λ a. fact_of s.worked (alone l a)) 1 (action_count g l) no_fact long i lt in
      let z : 1 + i ≡ suc i = omega arith in
      fact-source (IsResult g) s.worked results (alone l (suc i)) (get_or (cap_facts g s l) i no_fact) (subst (λ (a : ℕ). fact_of s.worked (alone l a) ≡ Some (get_or (cap_facts g s l) i no_fact)) z q)

  -- each of its facts gives a number between
  cap-each : (l : ℕ) → 1 ≤ l → l ≤ length g.types → length (cap_facts g s l) ≡ action_count g l → (i : ℕ) → i < action_count g l → (x : ℤ)
      → least_cap g l (get_or (cap_facts g s l) i no_fact) ≡ Some x → IsBetween g l x
  cap-each l low high long i lt x e = by src.of.point (subst (λ (y : Fix). IsPointOf g y src.of.fact src.of.point) src.fix src.holds.point)
    where
      f : Fact
      f = get_or (cap_facts g s l) i no_fact

      src : Source (IsResult g) (alone l (suc i)) (get_or (cap_facts g s l) i no_fact)
      src = cap-fact l i long lt

      rho : pos 1 ≤ℤ rho_of src.of.fact
      rho = holds-rho g src.of.fix src.of.fact src.holds.fact

      gives : least_cap g l src.of.fact ≡ Some x
      gives = ap (least_cap g l) src.fact ∙ e

      by : (o : Option Rattle.sg_commit.specs.Committed.Committed) → IsPointOf g (alone l (suc i)) src.of.fact o → IsBetween g l x
      by None p = absurd (none-some (sym (none-cap p) ∙ gives))
        where
          none-cap : mu_of src.of.fact ≡ pos 0 → least_cap g l src.of.fact ≡ None
          none-cap q = ap (λ (z : ℤ). cond (int_lt (pos 0) z) (Some (int_div (mu_of src.of.fact +ℤ ((rho_of src.of.fact *ℤ (attacker g l).prior) -ℤ pos 1)) (rho_of src.of.fact *ℤ (attacker g l).prior) -ℤ shift_of g)) None) q
      by (Some k) p = least_cap-within g l (greatest_of g l) src.of.fact rho (peopled.priors l low high)
          (reached-high g l (suc i) low high (omega arith) (omega (arith, lt)) src.of.fact rho (peopled.priors l low high) k.tickets p.2) x gives

  -- one of its facts gives a number, since an action is best for the first commitment
  cap-some : (l : ℕ) → 1 ≤ l → l ≤ length g.types → length (cap_facts g s l) ≡ action_count g l → filter_map (least_cap g l) (cap_facts g s l) ≢ []
  cap-some l low high long =
      let t = take_of-reached g first l (peopled.actions l low high) in
      at t.0 t.1
    where
      at : (a : ℕ) → Takes g first l a → filter_map (least_cap g l) (cap_facts g s l) ≢ []
      at zero t = let one = t.from_one in absurd (omega (arith, one))
      at (suc i) t =
          let high2 = t.in_range in
          let lt : i < action_count g l = omega (arith, high2) in
          let f : Fact = get_or (cap_facts g s l) i no_fact in
          let src = cap-fact l i long lt in
          let holds : HoldsFor g (alone l (suc i)) f = subst (λ (y : Fact). HoldsFor g (alone l (suc i)) y) src.fact (subst (λ (y : Fix). HoldsFor g y src.of.fact) src.fix src.holds.fact) in
          let follows : Follows g first l (suc i ∷ []) = (t, tt) in
          let not_empty : mu_of f ≢ pos 0 = λ e. empty_region g peopled (alone l (suc i)) (is_fix g first l (suc i ∷ []) (λ q. cc) low (omega (arith, high)) follows) f holds e first is_first (in_region g first l (suc i ∷ []) follows) in
          let nonneg = holds-mu g (alone l (suc i)) f holds in
          some f refl (positive (mu_of f) nonneg not_empty) lt
        where
          positive : (z : ℤ) → pos 0 ≤ℤ z → z ≢ pos 0 → int_lt (pos 0) z ≡ true
          positive z h q = ⊎_elim (λ yes. yes) (λ no. absurd (q (omega (arith, ints, no, h)))) (cases_Bool (int_lt (pos 0) z))

          some : (f : Fact) → f ≡ get_or (cap_facts g s l) i no_fact → int_lt (pos 0) (mu_of f) ≡ true → i < action_count g l → filter_map (least_cap g l) (cap_facts g s l) ≢ []
          some f is e lt = kept-some (least_cap g l) (cap_facts g s l) i (int_div (mu_of f +ℤ ((rho_of f *ℤ (attacker g l).prior) -ℤ pos 1)) (rho_of f *ℤ (attacker g l).prior) -ℤ shift_of g) (omega (arith, lt, long))
              (ap (least_cap g l) (sym is) ∙ ap (λ (b : Bool). cond b (Some (int_div (mu_of f +ℤ ((rho_of f *ℤ (attacker g l).prior) -ℤ pos 1)) (rho_of f *ℤ (attacker g l).prior) -ℤ shift_of g)) None) e)

  -- the greatest payoff of a type is itself between
  plain-between : (l : ℕ) → 1 ≤ l → l ≤ length g.types → IsBetween g l (greatest_of g l)
  plain-between l low high =
      let some = peopled.actions l low high in
      let up = sum_d-high g first is_first l 1 low high (omega arith) some in
      let down = sum_d-low g first is_first l 1 low high (omega arith) some in
      let w : ℤ = weight_total first in
      let positive = weight_total-positive first is_first.some is_first.positive in
      let top : ℤ = greatest_of g l in
      let sh : ℤ = shift_of g in
      let sum : pos 1 ≤ℤ ((top +ℤ sh) *ℤ w) = le_by (n 1) (times (plus (v top) (v sh)) (v w)) (omega (arith, le_from (n 1) (plus (v (sum_d g first l 1)) (times (v sh) (v w))) down, le_from (v (sum_d g first l 1)) (times (v top) (v w)) up)) in (
        ⊎_elim (λ yes. omega (arith, ints, yes)) (λ no. absurd
            (let le : (top +ℤ sh) ≤ℤ pos 0 = omega (arith, ints, no) in
            let prod = mul-le (top +ℤ sh) (pos 0) w le (omega (arith, ints, positive)) in
            let zero_is = same_by (times (n 0) (v w)) (n 0) (omega arith) in
            omega (arith, ints, sum, prod, zero_is)))
            (cases_Bool (int_lt (pos 0) (top +ℤ sh))),
        omega (arith, ints),
      )

  -- each cap is between
  pub cap-between : (l : ℕ) → 2 ≤ l → l ≤ length g.types → IsBetween g l (cap_at g s l).v
  cap-between l low high = by (nat_eq (length (cap_facts g s l)) (action_count g l)) refl
    where
      by : (b : Bool) → nat_eq (length (cap_facts g s l)) (action_count g l) ≡ b
          → IsBetween g l (cond {A = Cap} b (record { l = l; v = greatest (filter_map (least_cap g l) (cap_facts g s l)); proof = cap_facts g s l }) (record { l = l; v = greatest_of g l; proof = [] })).v
      by false e = plain-between l (omega (arith, low)) high
      by true e =
          let long : length (cap_facts g s l) ≡ action_count g l = eqb-true (length (cap_facts g s l)) (action_count g l) e in
          let xs : List ℤ = filter_map (least_cap g l) (cap_facts g s l) in
          All-contains (IsBetween g l) xs (greatest xs)
          (kept-each (IsBetween g l) (least_cap g l) (cap_facts g s l) (λ i lt x q. cap-each l (omega (arith, low)) high long i (omega (arith, lt, long)) x q))
          (greatest-reached xs (cap-some l (omega (arith, low)) high long))

  pub caps-between : (l : ℕ) → 2 ≤ l → l ≤ length g.types → IsBetween g l (cap_of (caps_of g s) l).v
  caps-between l low high = subst (λ (c : Cap). IsBetween g l c.v) (sym (cap-is g s l low high)) (cap-between l low high)

  -- what stands at a place in range doesn't rest on what stands past the end
  in-range : (xs : List Fact) (i : ℕ) (d e : Fact) → i < length xs → get_or xs i d ≡ get_or xs i e
  in-range [] i d e lt = absurd (omega (arith, lt))
  in-range (x ∷ xs) zero d e lt = refl
  in-range (x ∷ xs) (suc i) d e lt = in-range xs i d e (omega (arith, lt))

  cap-value : (l : ℕ) → length (cap_facts g s l) ≡ action_count g l → (cap_at g s l).v ≡ greatest (filter_map (least_cap g l) (cap_facts g s l))
  cap-value l long = by (nat_eq (length (cap_facts g s l)) (action_count g l)) (eq-eqb (length (cap_facts g s l)) (action_count g l) long)
    where
      by : (b : Bool) → b ≡ true
          → (cond {A = Cap} b (record { l = l; v = greatest (filter_map (least_cap g l) (cap_facts g s l)); proof = cap_facts g s l }) (record { l = l; v = greatest_of g l; proof = [] })).v ≡ greatest (filter_map (least_cap g l) (cap_facts g s l))
      by true e = refl
      by false e = absurd (true≢false (sym e))

  -- a proved cap is the least number that none of its facts exceeds
  pub cap-least : (l : ℕ) → 2 ≤ l → l ≤ length g.types → length (cap_facts g s l) ≡ action_count g l → (top : ℤ) → All (IsUnderCap g l top) (cap_facts g s l) ↔ ((cap_at g s l).v ≤ℤ top)
  cap-least l low high long top = (to, from)
    where
      xs : List ℤ
      xs = filter_map (least_cap g l) (cap_facts g s l)

      prior : pos 1 ≤ℤ (attacker g l).prior
      prior = peopled.priors l (omega (arith, low)) high

      holds : (i : ℕ) → i < length (cap_facts g s l) → HoldsFor g (alone l (suc i)) (get_or (cap_facts g s l) i no_fact)
      holds i lt =
          let src = cap-fact l i long (omega (arith, lt, long)) in
          subst (λ (y : Fact). HoldsFor g (alone l (suc i)) y) src.fact (subst (λ (y : Fix). HoldsFor g y src.of.fact) src.fix src.holds.fact)

      each : (i : ℕ) → i < length (cap_facts g s l) → IsUnderCap g l top (get_or (cap_facts g s l) i no_fact) → (x : ℤ) → least_cap g l (get_or (cap_facts g s l) i no_fact) ≡ Some x → x ≤ℤ top
      each i lt (inl none) x e =
          let f : Fact = get_or (cap_facts g s l) i no_fact in
          let q : least_cap g l f ≡ None = ap (λ (z : ℤ). cond (int_lt (pos 0) z) (Some (int_div (mu_of f +ℤ ((rho_of f *ℤ (attacker g l).prior) -ℤ pos 1)) (rho_of f *ℤ (attacker g l).prior) -ℤ shift_of g)) None) none in
          absurd (none-some (sym q ∙ e))
      each i lt (inr reach) x e =
          let f : Fact = get_or (cap_facts g s l) i no_fact in
          (least_cap-within g l top f (holds-rho g (alone l (suc i)) f (holds i lt)) prior reach x e).1

      to : All (IsUnderCap g l top) (cap_facts g s l) → (cap_at g s l).v ≤ℤ top
      to all = subst (λ (z : ℤ). z ≤ℤ top) (sym (cap-value l long))
          (All-contains (λ x. x ≤ℤ top) xs (greatest xs)
          (kept-each (λ x. x ≤ℤ top) (least_cap g l) (cap_facts g s l) (λ i lt x e. each i lt (all i no_fact lt) x e))
          (greatest-reached xs (cap-some l (omega (arith, low)) high long)))

      from : (cap_at g s l).v ≤ℤ top → All (IsUnderCap g l top) (cap_facts g s l)
      from le i d lt =
          let f : Fact = get_or (cap_facts g s l) i no_fact in
          let below : greatest xs ≤ℤ top = subst (λ (z : ℤ). z ≤ℤ top) (cap-value l long) le in
          subst (IsUnderCap g l top) (in-range (cap_facts g s l) i no_fact d lt)
          (within g l top f (holds-rho g (alone l (suc i)) f (holds i lt)) (holds-mu g (alone l (suc i)) f (holds i lt)) prior
          (λ x there. let up : x ≤ℤ greatest xs = All-contains (λ w. w ≤ℤ greatest xs) xs x (greatest-bounds xs) (kept-in (least_cap g l) (cap_facts g s l) i no_fact x lt there) in omega (arith, ints, up, below)))
