-- The sums of a commitment and the operations under them.
use Rattle.std.proofs.Common.{◌≡◌, ◌∙◌, ℕ, Bool, true, false, if◌then◌else◌, List, [], ◌∷◌, ◌++◌, ℤ, pos, ◌+ℤ◌, ◌*ℤ◌, sym, ap, refl, arith, filter, flat_map, Option, Some, None}
use Rattle.std.specs.Prelude.{length, Result, Ok, Err}
use Rattle.std.proofs.lemmas.Int.{ints}
use Rattle.sg_model.specs.declared.ticket.Ticket.{Ticket}
use Rattle.sg_model.specs.Sums.{numbers, total}
use Rattle.sg_model.specs.Games.{Game, action_count, attacker, prior_total}
use Rattle.sg_model.specs.Plays.{pay_a, pay_d}
use Rattle.sg_model.specs.Commitments.{is_best, sum_a, sum_d, take_of, weight_total, worth}
use Rattle.sg_num.specs.declared.step.Wide.{Wide}
use Rattle.sg_num.specs.Exact.{and_then, exact_dot_step, exact_sum, exact_times, fits}
use Rattle.sg_num.specs.Operations.{first_wide, formed, is_formed, plus, times}
use Rattle.sg_num.proofs.Firsts.{formed-append}
use Rattle.sg_commit.specs.ExactSums.{compared, exact_dot, exact_sum_a, exact_sum_d, exact_take, exact_worth, first_refusal, refusal_or, unless, worth_from}
use Rattle.sg_commit.specs.SumSteps.{AreFormed, SumsAreFormed, base_steps, dot_steps, sum_a_steps, sum_d_steps, take_steps, worth_steps}

-- ---- one product, added

dot_step-formed : {A : Type 0} (acc a b : ℤ) (next : ℤ → Result A Wide) (rest : List Wide) (v : A) → next (acc +ℤ (a *ℤ b)) ≡ formed rest v
    → and_then (exact_dot_step acc a b) next ≡ formed (times a b ∷ plus acc (a *ℤ b) ∷ rest) v
dot_step-formed acc a b next rest v e =
    elim (fits (a *ℤ b)) as (λ c. and_then (and_then (if c then Ok (a *ℤ b) else Err (times a b)) (λ product. exact_sum acc product)) next
    ≡ (if c then (if fits (acc +ℤ (a *ℤ b)) then formed rest v else Err (plus acc (a *ℤ b))) else Err (times a b))) [
      | true ↦ (elim (fits (acc +ℤ (a *ℤ b))) as (λ c. and_then (if c then Ok (acc +ℤ (a *ℤ b)) else Err (plus acc (a *ℤ b))) next ≡ (if c then formed rest v else Err (plus acc (a *ℤ b)))) [
        | true ↦ e
        | false ↦ refl
      ])
      | false ↦ refl
    ]

-- ---- sums over tickets

exact_dot-formed : (pay : Ticket → ℤ) (acc : ℤ) (k : List Ticket) → exact_dot pay acc k ≡ formed (dot_steps pay acc k) (acc +ℤ total (λ (x : Ticket). x.weight *ℤ pay x) k)
exact_dot-formed pay acc [] = let e : acc ≡ acc +ℤ pos 0 = omega (arith, ints) in ap (λ (z : ℤ). Ok z) e
exact_dot-formed pay acc (x ∷ xs) =
    let p : ℤ = x.weight *ℤ pay x in
    let more : ℤ = total (λ (y : Ticket). y.weight *ℤ pay y) xs in
    let same : (acc +ℤ p) +ℤ more ≡ acc +ℤ (p +ℤ more) = omega (arith, ints) in
    dot_step-formed acc x.weight (pay x) (λ next. exact_dot pay next xs) (dot_steps pay (acc +ℤ p) xs) (acc +ℤ (p +ℤ more))
    (exact_dot-formed pay (acc +ℤ p) xs ∙ ap (λ (z : ℤ). formed (dot_steps pay (acc +ℤ p) xs) z) same)

from-nothing : (pay : Ticket → ℤ) (k : List Ticket) → exact_dot pay (pos 0) k ≡ formed (dot_steps pay (pos 0) k) (total (λ (x : Ticket). x.weight *ℤ pay x) k)
from-nothing pay k =
    let sum : ℤ = total (λ (x : Ticket). x.weight *ℤ pay x) k in
    let e : pos 0 +ℤ sum ≡ sum = omega (arith, ints) in
    exact_dot-formed pay (pos 0) k ∙ ap (λ (z : ℤ). formed (dot_steps pay (pos 0) k) z) e

-- ---- several sums, one after another

first_wide-append : (xs ys : List Wide) (v : ℤ) → first_wide (xs ++ ys) ≡ refusal_or (formed xs v) (first_wide ys)
first_wide-append [] ys v = refl
first_wide-append (x ∷ xs) ys v =
    elim (is_formed x) as (λ b. (if b then first_wide (xs ++ ys) else Some x) ≡ refusal_or (if b then formed xs v else Err x) (first_wide ys)) [
      | true ↦ first_wide-append xs ys v
      | false ↦ refl
    ]

refusals : (form : ℕ → Result ℤ Wide) (steps : ℕ → List Wide) (value : ℕ → ℤ) → ((a : ℕ) → form a ≡ formed (steps a) (value a)) → (xs : List ℕ)
    → first_refusal form xs ≡ first_wide (flat_map steps xs)
refusals form steps value each [] = refl
refusals form steps value each (a ∷ xs) =
    ap (λ (r : Result ℤ Wide). refusal_or r (first_refusal form xs)) (each a)
    ∙ ap (λ (o : Option Wide). refusal_or (formed (steps a) (value a)) o) (refusals form steps value each xs)
    ∙ sym (first_wide-append (steps a) (flat_map steps xs) (value a))

unless-ok : {A : Type 0} (xs : List Wide) (v : A) → unless (first_wide xs) (Ok v) ≡ formed xs v
unless-ok [] v = refl
unless-ok (x ∷ xs) v = elim (is_formed x) as (λ b. unless (if b then first_wide xs else Some x) (Ok v) ≡ (if b then formed xs v else Err x)) [ true ↦ unless-ok xs v | false ↦ refl ]

unless-formed : {A : Type 0} (xs ys : List Wide) (v : A) → unless (first_wide xs) (formed ys v) ≡ formed (xs ++ ys) v
unless-formed [] ys v = refl
unless-formed (x ∷ xs) ys v =
    elim (is_formed x) as (λ b. unless (if b then first_wide xs else Some x) (formed ys v) ≡ (if b then formed (xs ++ ys) v else Err x)) [
      | true ↦ unless-formed xs ys v
      | false ↦ refl
    ]

-- ---- what types take

sum_a-formed : (g : Game) (k : List Ticket) (l a : ℕ) → exact_sum_a g k l a ≡ formed (sum_a_steps g k l a) (sum_a g k l a)
sum_a-formed g k l a = from-nothing (λ (x : Ticket). pay_a g l x.play.code a) k

sum_d-formed : (g : Game) (k : List Ticket) (l a : ℕ) → exact_sum_d g k l a ≡ formed (sum_d_steps g k l a) (sum_d g k l a)
sum_d-formed g k l a = from-nothing (λ (x : Ticket). pay_d g l x.play.code a) k

take-formed : (g : Game) (k : List Ticket) (l : ℕ) → exact_take g k l ≡ formed (take_steps g k l) (take_of g k l)
take-formed g k l =
    let every : List ℕ = numbers (action_count g l) in
    let bests : List ℕ = filter (is_best g k l) every in
    let a = refusals (exact_sum_a g k l) (sum_a_steps g k l) (sum_a g k l) (sum_a-formed g k l) every in
    let d = refusals (exact_sum_d g k l) (sum_d_steps g k l) (sum_d g k l) (sum_d-formed g k l) bests in
    ap (λ (o : Option Wide). unless o (unless (first_refusal (exact_sum_d g k l) bests) (Ok (take_of g k l)))) a
    ∙ ap (λ (o : Option Wide). unless (first_wide (flat_map (sum_a_steps g k l) every)) (unless o (Ok (take_of g k l)))) d
    ∙ ap (λ (r : Result ℤ Wide). unless (first_wide (flat_map (sum_a_steps g k l) every)) r) (unless-ok (flat_map (sum_d_steps g k l) bests) (take_of g k l))
    ∙ unless-formed (flat_map (sum_a_steps g k l) every) (flat_map (sum_d_steps g k l) bests) (take_of g k l)

behind : (first : List Wide) (taken acc prior : ℤ) (next : ℤ → Result ℤ Wide) (rest : List Wide) (v : ℤ) → next (acc +ℤ (prior *ℤ taken)) ≡ formed rest v
    → and_then (and_then (formed first taken) (λ t. exact_dot_step acc prior t)) next ≡ formed (first ++ (times prior taken ∷ plus acc (prior *ℤ taken) ∷ rest)) v
behind [] taken acc prior next rest v e = dot_step-formed acc prior taken next rest v e
behind (x ∷ xs) taken acc prior next rest v e =
    elim (is_formed x) as (λ b. and_then (and_then (if b then formed xs taken else Err x) (λ t. exact_dot_step acc prior t)) next
    ≡ (if b then formed (xs ++ (times prior taken ∷ plus acc (prior *ℤ taken) ∷ rest)) v else Err x)) [
      | true ↦ behind xs taken acc prior next rest v e
      | false ↦ refl
    ]

worth_from-formed : (g : Game) (k : List Ticket) (acc : ℤ) (ls : List ℕ)
    → worth_from g k acc ls ≡ formed (worth_steps g k acc ls) (acc +ℤ total (λ l. (attacker g l).prior *ℤ take_of g k l) ls)
worth_from-formed g k acc [] = let e : acc ≡ acc +ℤ pos 0 = omega (arith, ints) in ap (λ (z : ℤ). Ok z) e
worth_from-formed g k acc (l ∷ ls) =
    let prior : ℤ = (attacker g l).prior in
    let taken : ℤ = take_of g k l in
    let now : ℤ = acc +ℤ (prior *ℤ taken) in
    let more : ℤ = total (λ n. (attacker g n).prior *ℤ take_of g k n) ls in
    let same : now +ℤ more ≡ acc +ℤ ((prior *ℤ taken) +ℤ more) = omega (arith, ints) in
    ap (λ (r : Result ℤ Wide). and_then (and_then r (λ t. exact_dot_step acc prior t)) (λ next. worth_from g k next ls)) (take-formed g k l)
    ∙ behind (take_steps g k l) taken acc prior (λ next. worth_from g k next ls) (worth_steps g k now ls) (acc +ℤ ((prior *ℤ taken) +ℤ more))
    (worth_from-formed g k now ls ∙ ap (λ (z : ℤ). formed (worth_steps g k now ls) z) same)

worth-formed : (g : Game) (k : List Ticket) → exact_worth g k ≡ formed (worth_steps g k (pos 0) (numbers (length g.types))) (worth g k)
worth-formed g k =
    let e : pos 0 +ℤ worth g k ≡ worth g k = omega (arith, ints) in
    worth_from-formed g k (pos 0) (numbers (length g.types)) ∙ ap (λ (z : ℤ). formed (worth_steps g k (pos 0) (numbers (length g.types))) z) e

pub sums_are_formed : SumsAreFormed
sums_are_formed g k =
    let base : ℤ = weight_total k *ℤ prior_total g in
    record {
      defender = sum_d-formed g k;
      attacker = sum_a-formed g k;
      taken = take-formed g k;
      worth = worth-formed g k;
      base =
          ap (λ (r : Result ℤ Wide). and_then r (λ _. exact_times (weight_total k) (prior_total g))) (worth-formed g k)
          ∙ sym (formed-append (worth_steps g k (pos 0) (numbers (length g.types))) (times (weight_total k) (prior_total g) ∷ []) (worth g k) base);
    }
