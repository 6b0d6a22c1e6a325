-- Worked nodes counted by what they fix: by the actions in front of a prefix, and by the type of a cap.
use Rattle.std.proofs.Common.{◌≡◌, ℕ, zero, suc, ◌+◌, ◌≤◌, ◌<◌, Bool, true, false, cond, nat_eq, ◌&&◌, List, [], ◌∷◌, ◌++◌, bytes_eq, sym, ◌∙◌, ap, subst, refl, arith, ⊎_elim}
use Rattle.std.proofs.lemmas.Bool.{cases_Bool, eq-eqb, eqb-true}
use Rattle.std.proofs.lemmas.Slice.Eq.{bytes_eq-Decides}
use Rattle.sg_tree.specs.declared.fix.Fix.{Fix}
use Rattle.sg_bounds.specs.Regions.{alone, prefix}
use Rattle.sg_search.specs.Searches.{same}
use Rattle.sg_search.proofs.Placed.{one_if, one_if-le, same-is}

-- ---- sums

-- over numbers in a row, and over a list
abbrev pub sum_from : (ℕ → ℕ) → ℕ → ℕ → ℕ
sum_from f b zero = 0
sum_from f b (suc k) = f b + sum_from f (b + 1) k

abbrev pub sum_over : {X : Type 0} → (X → ℕ) → List X → ℕ
sum_over f [] = 0
sum_over f (x ∷ xs) = f x + sum_over f xs

sum-zero : (f : ℕ → ℕ) (b k : ℕ) → ((a : ℕ) → b ≤ a → a < b + k → f a ≡ 0) → sum_from f b k ≡ 0
sum-zero f b zero each = refl
sum-zero f b (suc k) each = omega (arith, each b (omega arith) (omega arith), sum-zero f (b + 1) k (λ a low high. each a (omega (arith, low)) (omega (arith, high))))

sum-add : (f h : ℕ → ℕ) (b k : ℕ) → sum_from (λ a. f a + h a) b k ≡ sum_from f b k + sum_from h b k
sum-add f h b zero = refl
sum-add f h b (suc k) = omega (arith, sum-add f h (b + 1) k)

sum-le : (f h : ℕ → ℕ) (b k : ℕ) → ((a : ℕ) → f a ≤ h a) → sum_from f b k ≤ sum_from h b k
sum-le f h b zero each = omega arith
sum-le f h b (suc k) each = omega (arith, each b, sum-le f h (b + 1) k each)

-- where of each item a row of counts and one more are at most a last one, so are their sums over a list
pub exchange : {X : Type 0} (q : ℕ → X → ℕ) (h r : X → ℕ) (b k : ℕ) (xs : List X) → ((x : X) → sum_from (λ a. q a x) b k + h x ≤ r x) → sum_from (λ a. sum_over (q a) xs) b k + sum_over h xs ≤ sum_over r xs
exchange q h r b k [] each = omega (arith, sum-zero (λ a. 0) b k (λ a low high. refl))
exchange q h r b k (x ∷ xs) each = omega (arith, sum-add (λ a. q a x) (λ a. sum_over (q a) xs) b k, each x, exchange q h r b k xs each)

-- a test that at most one number passes is passed at most once
at-most-one : (q : ℕ → Bool) → ((a b : ℕ) → q a ≡ true → q b ≡ true → a ≡ b) → (b k : ℕ) → sum_from (λ a. one_if (q a)) b k ≤ 1
at-most-one q one b zero = omega arith
at-most-one q one b (suc k) = ⊎_elim
    (λ yes.
    let none = sum-zero (λ a. one_if (q a)) (b + 1) k (λ a low high. ⊎_elim
    (λ too. absurd (let e = one b a yes too in omega (arith, e, low)))
    (λ no. ap one_if no)
    (cases_Bool (q a))) in
    let le = one_if-le (q b) in
    omega (arith, none, le))
    (λ no. let z : one_if (q b) ≡ 0 = ap one_if no in omega (arith, z, at-most-one q one (b + 1) k))
    (cases_Bool (q b))

-- ---- actions in front

-- 1 where some actions stand in front of others, else 0
abbrev front : List ℕ → List ℕ → ℕ
front [] xs = 1
front (a ∷ acts) [] = 0
front (a ∷ acts) (x ∷ xs) = cond (nat_eq a x) (front acts xs) 0

-- they stand in front of themselves, and longer ones don't
front-own : (acts : List ℕ) → front acts acts ≡ 1
front-own [] = refl
front-own (a ∷ acts) = let e : nat_eq a a ≡ true = eq-eqb a a refl in rw e (front-own acts)

front-longer : (acts : List ℕ) (a : ℕ) → front (acts ++ (a ∷ [])) acts ≡ 0
front-longer [] a = refl
front-longer (x ∷ acts) a = let e : nat_eq x x ≡ true = eq-eqb x x refl in rw e (front-longer acts a)

-- what has one more action in front has those before, and has but one
front-more : (acts xs : List ℕ) (b k : ℕ) → sum_from (λ a. front (acts ++ (a ∷ [])) xs) b k ≤ front acts xs
front-more [] [] b k = omega (arith, sum-zero (λ a. 0) b k (λ a low high. refl))
front-more [] (x ∷ xs) b k = at-most-one (λ a. nat_eq a x) (λ a c p q. eqb-true a x p ∙ sym (eqb-true c x q)) b k
front-more (c ∷ acts) [] b k = omega (arith, sum-zero (λ a. 0) b k (λ a low high. refl))
front-more (c ∷ acts) (x ∷ xs) b k = by (nat_eq c x) (front-more acts xs b k)
  where
    by : (t : Bool) → sum_from (λ a. front (acts ++ (a ∷ [])) xs) b k ≤ front acts xs → sum_from (λ a. cond t (front (acts ++ (a ∷ [])) xs) 0) b k ≤ cond t (front acts xs) 0
    by true rest = rest
    by false rest = omega (arith, sum-zero (λ a. 0) b k (λ a low high. refl))

-- ---- nodes

-- 1 where a node is a prefix with these actions in front, else 0
abbrev pub under : List ℕ → Fix → ℕ
under acts x = cond (nat_eq x.first 1) (front acts x.acts) 0

-- 1 where it fixes this type first
abbrev pub first_is : ℕ → Fix → ℕ
first_is l x = one_if (nat_eq l x.first)

-- below a prefix stand itself and what is below its parts
pub under-parts : (acts : List ℕ) (b k : ℕ) (x : Fix) → sum_from (λ a. under (acts ++ (a ∷ [])) x) b k + one_if (same (prefix acts) x) ≤ under acts x
under-parts acts b k x = ⊎_elim
    (λ yes.
    let e = same-is (prefix acts) x yes in
    subst (λ (y : Fix). sum_from (λ a. under (acts ++ (a ∷ [])) y) b k + one_if (same (prefix acts) y) ≤ under acts y) e
    (let none = sum-zero (λ a. front (acts ++ (a ∷ [])) acts) b k (λ a low high. front-longer acts a) in
    let own = front-own acts in
    let one = one_if-le (same (prefix acts) (prefix acts)) in
    omega (arith, none, own, one)))
    (λ no. let z : one_if (same (prefix acts) x) ≡ 0 = ap one_if no in omega (arith, z, others (nat_eq x.first 1)))
    (cases_Bool (same (prefix acts) x))
  where
    others : (t : Bool) → sum_from (λ a. cond t (front (acts ++ (a ∷ [])) x.acts) 0) b k ≤ cond t (front acts x.acts) 0
    others true = front-more acts x.acts b k
    others false = omega (arith, sum-zero (λ a. 0) b k (λ a low high. refl))

-- the nodes of the actions of a type fix this type first
pub alone-parts : (l b k : ℕ) (x : Fix) → sum_from (λ a. one_if (same (alone l a) x)) b k + 0 ≤ first_is l x
alone-parts l b k x = by (nat_eq l x.first)
  where
    acts-one : (a c : ℕ) → bytes_eq (a ∷ []) x.acts ≡ true → bytes_eq (c ∷ []) x.acts ≡ true → a ≡ c
    acts-one a c p q = head-same a c ((bytes_eq-Decides (a ∷ []) x.acts).0 p ∙ sym ((bytes_eq-Decides (c ∷ []) x.acts).0 q))
      where
        head-same : (a c : ℕ) → a ∷ [] ≡ c ∷ [] → a ≡ c
        head-same a c e = cc

    by : (t : Bool) → sum_from (λ a. one_if (t && bytes_eq (a ∷ []) x.acts)) b k + 0 ≤ one_if t
    by true = omega (arith, at-most-one (λ a. bytes_eq (a ∷ []) x.acts) acts-one b k)
    by false = omega (arith, sum-zero (λ a. 0) b k (λ a low high. refl))

-- prefixes, and nodes that fix a later type
pub types-apart : (k : ℕ) (x : Fix) → sum_from (λ l. first_is l x) 2 k + under [] x ≤ 1
types-apart k x = by (nat_eq x.first 1) refl
  where
    by : (t : Bool) → nat_eq x.first 1 ≡ t → sum_from (λ l. first_is l x) 2 k + cond t 1 0 ≤ 1
    by true e =
        let one = eqb-true x.first 1 e in
        let none = sum-zero (λ l. first_is l x) 2 k (λ l low high. ⊎_elim (λ yes. absurd (let q = eqb-true l x.first yes in omega (arith, q, one, low))) (λ no. ap one_if no) (cases_Bool (nat_eq l x.first))) in
        omega (arith, none)
    by false e = omega (arith, at-most-one (λ l. nat_eq l x.first) (λ a c p q. eqb-true a x.first p ∙ sym (eqb-true c x.first q)) 2 k)
