-- The stated sums are the results of the operations under them.
use Rattle.std.proofs.Common.{◌≡◌, ◌∙◌, ℕ, Bool, true, false, if◌then◌else◌, List, [], ◌∷◌, ◌++◌, map, ℤ, pos, ◌+ℤ◌, ◌*ℤ◌, sym, ap, refl, filter, flat_map}
use Rattle.std.specs.Prelude.{int_lt, length}
use Rattle.std.proofs.lemmas.List.{map-append}
use Rattle.sg_model.specs.declared.ticket.Ticket.{Ticket}
use Rattle.sg_model.specs.Sums.{numbers, total}
use Rattle.sg_model.specs.Games.{Game, action_count, attacker, prior_total}
use Rattle.sg_model.specs.Plays.{pay_a, pay_d}
use Rattle.sg_model.specs.Commitments.{is_best, take_of, weight_total}
use Rattle.sg_num.specs.declared.step.Wide.{Wide}
use Rattle.sg_num.specs.Operations.{plus, times, value_of_step}
use Rattle.sg_commit.specs.SumSteps.{base_steps, dot_steps, sum_a_steps, sum_d_steps, take_steps, worth_steps}
use Rattle.sg_tree.specs.declared.fact.Fact.{Fact}
use Rattle.sg_tree.specs.declared.fact.Fact.TheVariants.{Plays, Cover, Water}
use Rattle.sg_tree.specs.declared.fix.Fix.{Fix}
use Rattle.sg_tree.specs.declared.report.Cap.{Cap}
use Rattle.sg_bounds.specs.Facts.{mu_of, rho_of}
use Rattle.sg_bounds.specs.Leaves.{rest_of}
use Rattle.sg_bounds.specs.Sizes.{attacker_most, bound_sums, defender_most, fixed_priors, multipliers_of, pay_sums, running, size_list, size_sum, size_sums, take_sums, value_sums, worth_sums}
use Rattle.sg_bounds.specs.SizeSteps.{AreResults, bound_steps, running_steps, size_list_steps, size_steps}

running-results : (z : ℤ) (xs : List ℤ) → running z xs ≡ map value_of_step (running_steps z xs)
running-results z [] = refl
running-results z (x ∷ xs) = ap (λ (ys : List ℤ). (z +ℤ x) ∷ ys) (running-results (z +ℤ x) xs)

pay-results : (pays : List ℕ → ℤ) (z : ℤ) (k : List Ticket) → pay_sums pays z k ≡ map value_of_step (dot_steps (λ (x : Ticket). pays x.play.code) z k)
pay-results pays z [] = refl
pay-results pays z (x ∷ xs) =
    let p : ℤ = x.weight *ℤ pays x.play.code in
    ap (λ (ys : List ℤ). p ∷ (z +ℤ p) ∷ ys) (pay-results pays (z +ℤ p) xs)

flat-results : (sums : ℕ → List ℤ) (steps : ℕ → List Wide) → ((a : ℕ) → sums a ≡ map value_of_step (steps a)) → (xs : List ℕ)
    → flat_map sums xs ≡ map value_of_step (flat_map steps xs)
flat-results sums steps each [] = refl
flat-results sums steps each (a ∷ xs) =
    ap (λ (ys : List ℤ). ys ++ flat_map sums xs) (each a)
    ∙ ap (λ (ys : List ℤ). map value_of_step (steps a) ++ ys) (flat-results sums steps each xs)
    ∙ sym (map-append value_of_step (steps a) (flat_map steps xs))

take-results : (g : Game) (k : List Ticket) (l : ℕ) → take_sums g k l ≡ map value_of_step (take_steps g k l)
take-results g k l =
    let every : List ℕ = numbers (action_count g l) in
    let bests : List ℕ = filter (is_best g k l) every in
    let a = flat-results (λ a. pay_sums (λ play. pay_a g l play a) (pos 0) k) (sum_a_steps g k l) (λ a. pay-results (λ play. pay_a g l play a) (pos 0) k) every in
    let d = flat-results (λ a. pay_sums (λ play. pay_d g l play a) (pos 0) k) (sum_d_steps g k l) (λ a. pay-results (λ play. pay_d g l play a) (pos 0) k) bests in
    ap (λ (ys : List ℤ). ys ++ flat_map (λ a. pay_sums (λ play. pay_d g l play a) (pos 0) k) bests) a
    ∙ ap (λ (ys : List ℤ). map value_of_step (flat_map (sum_a_steps g k l) every) ++ ys) d
    ∙ sym (map-append value_of_step (flat_map (sum_a_steps g k l) every) (flat_map (sum_d_steps g k l) bests))

worth-results : (g : Game) (k : List Ticket) (z : ℤ) (ls : List ℕ) → worth_sums g k z ls ≡ map value_of_step (worth_steps g k z ls)
worth-results g k z [] = refl
worth-results g k z (l ∷ ls) =
    let p : ℤ = (attacker g l).prior *ℤ take_of g k l in
    let rest : List Wide = times (attacker g l).prior (take_of g k l) ∷ plus z p ∷ worth_steps g k (z +ℤ p) ls in
    ap (λ (ys : List ℤ). ys ++ (p ∷ (z +ℤ p) ∷ worth_sums g k (z +ℤ p) ls)) (take-results g k l)
    ∙ ap (λ (ys : List ℤ). map value_of_step (take_steps g k l) ++ (p ∷ (z +ℤ p) ∷ ys)) (worth-results g k (z +ℤ p) ls)
    ∙ sym (map-append value_of_step (take_steps g k l) rest)

pub value-results : (g : Game) (k : List Ticket) → value_sums g k ≡ map value_of_step (base_steps g k)
value-results g k =
    let last : List Wide = times (weight_total k) (prior_total g) ∷ [] in
    ap (λ (ys : List ℤ). ys ++ ((weight_total k *ℤ prior_total g) ∷ [])) (worth-results g k (pos 0) (numbers (length g.types)))
    ∙ sym (map-append value_of_step (worth_steps g k (pos 0) (numbers (length g.types))) last)

list-results : (g : Game) (fix : Fix) (f : Fact) → size_list g fix f ≡ map value_of_step (size_list_steps g fix f)
list-results g fix f =
    let first : ℤ = rho_of f *ℤ fixed_priors g fix in
    let second : ℤ = first *ℤ defender_most g in
    let sum : ℤ = total (λ v. v) (multipliers_of f) in
    let last : List Wide = times sum (attacker_most g) ∷ plus second (sum *ℤ attacker_most g) ∷ [] in
    ap (λ (ys : List ℤ). first ∷ second ∷ (ys ++ ((sum *ℤ attacker_most g) ∷ size_sum g fix f ∷ []))) (running-results (pos 0) (multipliers_of f))
    ∙ ap (λ (ys : List ℤ). first ∷ second ∷ ys) (sym (map-append value_of_step (running_steps (pos 0) (multipliers_of f)) last))

size-results : (g : Game) (fix : Fix) (f : Fact) → size_sums g fix f ≡ map value_of_step (size_steps g fix f)
size-results g fix (Plays rho mu marks) = list-results g fix (Plays rho mu marks)
size-results g fix (Cover rho mu lines) = list-results g fix (Cover rho mu lines)
size-results g fix (Water level why) = refl

bound-results : (g : Game) (caps : List Cap) (n : ℕ) (f : Fact) → bound_sums g caps n f ≡ map value_of_step (bound_steps g caps n f)
bound-results g caps n f =
    let r : ℤ = rho_of f *ℤ rest_of g caps n in
    elim (int_lt (pos 0) (mu_of f)) as (λ b. (if b then (r ∷ (mu_of f +ℤ r) ∷ (rho_of f *ℤ prior_total g) ∷ []) else [])
    ≡ map value_of_step (if b then (times (rho_of f) (rest_of g caps n) ∷ plus (mu_of f) r ∷ times (rho_of f) (prior_total g) ∷ []) else [])) [ true ↦ refl | false ↦ refl ]

pub are_results : AreResults
are_results = record { weights = λ k. running-results (pos 0) (map (λ (x : Ticket). x.weight) k); values = value-results; sizes = size-results; bounds = bound-results }
