-- The caps of a search's report lie in the ranges of a report's text.
use Rattle.std.proofs.Common.{◌≡◌, ℕ, zero, suc, ◌+◌, ◌-◌, ◌≤◌, ◌<◌, ◌^◌, Bool, true, false, cond, nat_eq, List, [], flat_map, length, filter_map, ℤ, pos, negsuc, ◌≤ℤ◌, refl, arith, Option, Some, None}
use Rattle.std.specs.List.{All, AllByRecursion, cons_option}
use Rattle.std.proofs.lemmas.Int.{ints}
use Rattle.std.proofs.lemmas.List.Elements.{All-map, recursion_from_All}
use Rattle.sg_model.specs.declared.ticket.Ticket.{Ticket}
use Rattle.sg_model.specs.Sums.{greatest, numbers, numbers_from}
use Rattle.sg_model.specs.Games.{Game, action_count}
use Rattle.sg_model.specs.Limits.{IsGame}
use Rattle.sg_model.specs.Payoffs.{greatest_of, payoffs_of}
use Rattle.sg_model.specs.Commitments.{IsCommitment}
use Rattle.sg_model.proofs.Numbers.{All-numbers_from}
use Rattle.sg_model.proofs.Promises.{peopled}
use Rattle.sg_tree.specs.declared.fact.Fact.{Fact}
use Rattle.sg_tree.specs.declared.fix.Fix.{Fix}
use Rattle.sg_tree.specs.declared.report.Cap.{Cap}
use Rattle.sg_cert.specs.Ranges.{IsCap, IsFact}
use Rattle.sg_bounds.specs.Regions.{alone}
use Rattle.sg_search.specs.Searches.{Search}
use Rattle.sg_search.specs.Bounding.{cap_at, cap_facts, caps_of, fact_of, least_cap}
use Rattle.sg_search.specs.Results.{IsResult}
use Rattle.sg_search.proofs.Capped.{kept-le}
use Rattle.sg_search.proofs.Ranges.{IsBetween, cap-between}
use Rattle.sg_programs.proofs.Sized.{few-types, least-pay, pays-all}
use Rattle.sg_answer_laws.proofs.Values.{greatest_of-pay}

-- the facts of a cap
kept-ranged : (h : ℕ → Option Fact) → ((a : ℕ) (f : Fact) → h a ≡ Some f → IsFact f) → (b k : ℕ) → AllByRecursion IsFact (filter_map h (numbers_from b k))
kept-ranged h each b zero = tt
kept-ranged h each b (suc k) = by (h b) refl (kept-ranged h each (b + 1) k)
  where
    by : (o : Option Fact) → h b ≡ o → AllByRecursion IsFact (filter_map h (numbers_from (b + 1) k)) → AllByRecursion IsFact (cons_option o (filter_map h (numbers_from (b + 1) k)))
    by None e rest = rest
    by (Some f) e rest = (each b f e, rest)

-- what lies between the least and the greatest payoff is a number of 64 bits
between-small : (g : Game) → IsGame g → (l : ℕ) (z : ℤ) → IsBetween g l z → (negsuc (2 ^ 63 - 1) ≤ℤ z) × (z ≤ℤ pos (2 ^ 63 - 1))
between-small g game l z is =
    let low = (least-pay (flat_map (payoffs_of g) (numbers (length g.types))) (pays-all g game)).at_least in
    let high = (greatest_of-pay g game l).at_most in
    let a = is.0 in
    let b = is.1 in
    (omega (arith, ints, low, a), omega (arith, ints, high, b))

module _ (g : Game) (game : IsGame g) (small : (l : ℕ) → action_count g l < 2 ^ 16) (s : Search) (results : All (IsResult g) s.worked) (first : List Ticket) (is_first : IsCommitment g first)
    (facts : (x : Fix) (f : Fact) → fact_of s.worked x ≡ Some f → IsFact f) where
  cap-ranged : (l : ℕ) → 2 ≤ l → l ≤ length g.types → IsCap (cap_at g s l)
  cap-ranged l low high = by (nat_eq (length (cap_facts g s l)) (action_count g l)) (cap-between g (peopled g game) s results first is_first l low high)
    where
      types : length g.types ≤ 8
      types = few-types g game

      by : (b : Bool) → IsBetween g l (cond {A = Cap} b (record { l = l; v = greatest (filter_map (least_cap g l) (cap_facts g s l)); proof = cap_facts g s l }) (record { l = l; v = greatest_of g l; proof = [] })).v
          → IsCap (cond {A = Cap} b (record { l = l; v = greatest (filter_map (least_cap g l) (cap_facts g s l)); proof = cap_facts g s l }) (record { l = l; v = greatest_of g l; proof = [] }))
      by true is = record {
        l = (omega (arith, low), omega (arith, high, types));
        v = between-small g game l (greatest (filter_map (least_cap g l) (cap_facts g s l))) is;
        count = (let few = kept-le (λ a. fact_of s.worked (alone l a)) 1 (action_count g l) in let most = small l in omega (arith, few, most));
        proof = kept-ranged (λ a. fact_of s.worked (alone l a)) (λ a f e. facts (alone l a) f e) 1 (action_count g l);
      }
      by false is = record { l = (omega (arith, low), omega (arith, high, types)); v = between-small g game l (greatest_of g l) is; count = omega arith; proof = tt }

  pub caps-ranged : AllByRecursion IsCap (caps_of g s)
  caps-ranged =
      recursion_from_All IsCap (caps_of g s)
      (All-map IsCap (cap_at g s) (numbers_from 2 (length g.types - 1))
      (All-numbers_from (λ l. IsCap (cap_at g s l)) 2 (length g.types - 1) (λ l low high. cap-ranged l low (omega (arith, high)))))
