-- The facts of a type's cap nodes gathered, and the greatest of their least numbers.
use Rattle.std.proofs.Common.{◌≡◌, ◌≢◌, ◌⊎◌, ℕ, zero, suc, ◌+◌, ◌-◌, ◌≤◌, ◌<◌, Bool, true, false, true≢false, cond, List, [], ◌∷◌, ◌++◌, length, drop, get_or, fold, find, filter_map, option_map, sym, ◌∙◌, ap, subst, refl, arith, Option, Some, None, inl, inr, ⊎_elim, All, ℤ, pos, ◌+ℤ◌, ◌-ℤ◌, ◌*ℤ◌, ◌≤ℤ◌, int_lt, int_div}
use Rattle.std.specs.List.{cons_option}
use Rattle.std.specs.Int.{int_max}
use Rattle.std.proofs.lemmas.Int.{ints}
use Rattle.std.proofs.lemmas.List.{append-nil, append_assoc, at_drop_more, length_push}
use Rattle.std.proofs.Math.ListN.{drop_of_length-le}
use Rattle.sg_model.specs.Sums.{greatest, numbers, numbers_from, total}
use Rattle.sg_model.specs.Games.{Game, action_count, attacker}
use Rattle.sg_model.specs.Payoffs.{IsPeopled, greatest_of, shift_of}
use Rattle.sg_model.specs.Commitments.{IsCommitment}
use Rattle.sg_model.specs.declared.ticket.Ticket.{Ticket}
use Rattle.sg_num.specs.Exact.{Fits}
use Rattle.sg_tree.specs.declared.fact.Fact.TheVariants.{Plays, Cover, Water}
use Rattle.sg_search.specs.Results.{IsResult}
use Rattle.sg_search.proofs.Ranges.{cap-between, cap-least, fact-source}
use Rattle.std.proofs.lemmas.List.Elements.{All-head}
use Rattle.sg_tree.specs.declared.fact.Fact.{Fact}
use Rattle.sg_tree.specs.declared.fix.Fix.{Fix}
use Rattle.sg_tree.specs.declared.worked.Worked.{Worked}
use Rattle.sg_bounds.specs.Regions.{alone}
use Rattle.sg_bounds.specs.Facts.{HoldsFor, mu_of, no_fact, rho_of}
use Rattle.sg_bounds.specs.Sizes.{attacker_most, defender_most, fixed_priors, multipliers_of, running, size_list, size_sum, size_sums}
use Rattle.sg_bounds.proofs.Caps.{holds-rho}
use Rattle.sg_search.specs.Searches.{Search, same}
use Rattle.sg_search.specs.Bounding.{cap_facts, fact_of, least_cap}
use Rattle.sg_search.proofs.Capped.{kept-all}
use Rattle.sg_bounds.specs.Caps.{IsUnderCap}
use Rattle.sg_model.specs.declared.limit.TheConstants.{PAYOFF_LIMIT}
use Rattle.sg_model.proofs.Ints.{v, plus, times, le_by, le_from}
use Rattle.sg_lanes.specs.ProvedCaps.{IsCapFact}

-- ---- facts one after another

some-is : {X : Type 0} (o : Option X) (x y : X) → o ≡ Some x → x ≡ y → o ≡ Some y
some-is o x y e f = e ∙ ap (λ (z : _). Some z) f

pub facts-step : (h : ℕ → Option Fact) (xs all : List Fact) (f : Fact) (i n : ℕ) → i < n → xs ++ filter_map h (numbers_from (i + 1) (n - i)) ≡ all → h (i + 1) ≡ Some f
    → (xs ++ (f ∷ [])) ++ filter_map h (numbers_from (i + 1 + 1) (n - (i + 1))) ≡ all
facts-step h xs all f i n lt e is =
    let left : List Fact = filter_map h (numbers_from (i + 1 + 1) (n - (i + 1))) in
    append_assoc xs (f ∷ []) left
    ∙ ap (λ (o : Option Fact). xs ++ cons_option o left) (sym is)
    ∙ ap (λ (k : ℕ). xs ++ filter_map h (numbers_from (i + 1) k)) (let q : suc (n - (i + 1)) ≡ n - i = omega (arith, lt) in q)
    ∙ e

pub facts-end : (h : ℕ → Option Fact) (xs all : List Fact) (i n : ℕ) → n ≤ i → xs ++ filter_map h (numbers_from (i + 1) (n - i)) ≡ all → xs ≡ all
facts-end h xs all i n le e = sym (append-nil xs) ∙ ap (λ (k : ℕ). xs ++ filter_map h (numbers_from (i + 1) k)) (let q : 0 ≡ n - i = omega (arith, le) in q) ∙ e

none-some : {X : Type 0} {a : X} → None ≡ Some a → ⊥
none-some h = cc

-- where one is missing, not all are there
pub facts-missing : (g : Game) (s : Search) (l a : ℕ) → 1 ≤ a → a ≤ action_count g l → fact_of s.worked (alone l a) ≡ None → length (cap_facts g s l) ≢ action_count g l
facts-missing g s l zero from_one in_range e = absurd (omega (arith, from_one))
facts-missing g s l (suc i) from_one in_range e = λ long.
    let q = kept-all (λ a. fact_of s.worked (alone l a)) 1 (action_count g l) no_fact long i (omega (arith, in_range)) in
    let z : 1 + i ≡ suc i = omega arith in
    none-some (sym e ∙ subst (λ (a : ℕ). fact_of s.worked (alone l a) ≡ Some (get_or (cap_facts g s l) i no_fact)) z q)

-- ---- the least number of one fact

module _ (g : Game) (l : ℕ) (f : Fact) (c : IsCapFact g l f) (some : int_lt (pos 0) (mu_of f) ≡ true) where
  reach : mu_of f ≤ℤ ((PAYOFF_LIMIT +ℤ shift_of g) *ℤ (rho_of f *ℤ (attacker g l).prior))
  reach = by c.under
    where
      by : IsUnderCap g l PAYOFF_LIMIT f → mu_of f ≤ℤ ((PAYOFF_LIMIT +ℤ shift_of g) *ℤ (rho_of f *ℤ (attacker g l).prior))
      by (inl e) = absurd (omega (arith, ints, e, some))
      by (inr h) =
          let r = v (rho_of f) in let p = v (attacker g l).prior in let t = v PAYOFF_LIMIT in let sh = v (shift_of g) in
          le_by (v (mu_of f)) (times (plus t sh) (times r p)) (omega (arith, le_from (v (mu_of f)) (times r (times p (plus t sh))) h))

  pub least-high : (m d up : ℤ) → m ≡ mu_of f → d ≡ rho_of f *ℤ (attacker g l).prior → ((q : ℤ) → m ≤ℤ (q *ℤ d) → up ≤ℤ q) → up ≤ℤ (PAYOFF_LIMIT +ℤ shift_of g)
  least-high m d up is_m is_d least =
      least (PAYOFF_LIMIT +ℤ shift_of g)
      (subst (λ (x : ℤ). x ≤ℤ ((PAYOFF_LIMIT +ℤ shift_of g) *ℤ d)) (sym is_m) (subst (λ (y : ℤ). mu_of f ≤ℤ ((PAYOFF_LIMIT +ℤ shift_of g) *ℤ y)) (sym is_d) reach))

  pub least-is : (m d up sh : ℤ) → m ≡ mu_of f → d ≡ rho_of f *ℤ (attacker g l).prior → sh ≡ shift_of g → up ≡ int_div (m +ℤ (d -ℤ pos 1)) d → Some (up -ℤ sh) ≡ least_cap g l f
  least-is m d up sh is_m is_d is_sh is_up =
      let e : ℤ = rho_of f *ℤ (attacker g l).prior in
      let q : up -ℤ sh ≡ int_div (mu_of f +ℤ (e -ℤ pos 1)) e -ℤ shift_of g = rw (is_up, is_m, is_d, is_sh) refl in
      ap (λ (z : ℤ). Some z) q
      ∙ sym (ap (λ (b : Bool). cond {A = Option ℤ} b (Some (int_div (mu_of f +ℤ (e -ℤ pos 1)) e -ℤ shift_of g)) None) some)

-- ---- the facts of a type's cap nodes

head-fits : (g : Game) (l a : ℕ) (f : Fact) → All Fits (size_list g (alone l a) f) → Fits (rho_of f *ℤ (attacker g l).prior)
head-fits g l a f fits =
    let r : ℤ = rho_of f in
    let one : fixed_priors g (alone l a) ≡ (attacker g l).prior = omega (arith, ints) in
    subst (λ (z : ℤ). Fits (r *ℤ z)) one
    (All-head Fits (r *ℤ fixed_priors g (alone l a)) (((r *ℤ fixed_priors g (alone l a)) *ℤ defender_most g) ∷ (running (pos 0) (multipliers_of f) ++ ((total (λ v. v) (multipliers_of f) *ℤ attacker_most g) ∷ size_sum g (alone l a) f ∷ []))) fits)

prior-fits : (g : Game) (l a : ℕ) (f : Fact) → HoldsFor g (alone l a) f → All Fits (size_sums g (alone l a) f) → Fits (rho_of f *ℤ (attacker g l).prior)
prior-fits g l a (Water level why) holds fits = absurd holds
prior-fits g l a (Plays rho mu marks) holds fits = head-fits g l a (Plays rho mu marks) fits
prior-fits g l a (Cover rho mu lines) holds fits = head-fits g l a (Cover rho mu lines) fits

module _ (g : Game) (peopled : IsPeopled g) (s : Search) (results : All (IsResult g) s.worked) (first : List Ticket) (is_first : IsCommitment g first) where
  pub facts-capped : (l : ℕ) → 2 ≤ l → l ≤ length g.types → length (cap_facts g s l) ≡ action_count g l → greatest_of g l ≤ℤ PAYOFF_LIMIT → All (IsCapFact g l) (cap_facts g s l)
  facts-capped l low high long most i d lt =
      let f : Fact = get_or (cap_facts g s l) i d in
      let q = kept-all (λ a. fact_of s.worked (alone l a)) 1 (action_count g l) d long i (omega (arith, lt, long)) in
      let src = fact-source (IsResult g) s.worked results (alone l (1 + i)) f q in
      let holds : HoldsFor g (alone l (1 + i)) f = subst (λ (y : Fact). HoldsFor g (alone l (1 + i)) y) src.fact (subst (λ (y : Fix). HoldsFor g y src.of.fact) src.fix src.holds.fact) in
      let size : All Fits (size_sums g (alone l (1 + i)) f) = subst (λ (y : Fact). All Fits (size_sums g (alone l (1 + i)) y)) src.fact (subst (λ (y : Fix). All Fits (size_sums g y src.of.fact)) src.fix src.holds.narrow.size) in
      let top = (cap-between g peopled s results first is_first l low high).1 in
      record {
        rho = holds-rho g (alone l (1 + i)) f holds;
        fits = prior-fits g l (1 + i) f holds size;
        under = (cap-least g peopled s results first is_first l low high long PAYOFF_LIMIT).1 (omega (arith, ints, top, most)) i d lt;
      }
