-- The best answers of an attacker, and what the defender gets of them.
use Rattle.std.proofs.Common.{◌≡◌, ◌≢◌, ℕ, zero, suc, ◌≤◌, Bool, true, false, cond, List, [], ◌∷◌, map, ℤ, ◌≤ℤ◌, sym, ◌∙◌, subst, refl, arith, inl, inr}
use Rattle.std.specs.List.{All, Contains, filter, fold}
use Rattle.std.specs.Int.{int_max}
use Rattle.std.specs.Prelude.{int_le}
use Rattle.std.proofs.lemmas.Int.{ints, by_lt_z, fold-int_max_bounds, fold-int_max_reached}
use Rattle.std.proofs.lemmas.List.Elements.{All-head, All-tail, All-nil, All-cons, All-contains, All-filter, filter_passes}
use Rattle.std.proofs.lemmas.List.Sums.{AllPass-from_list_all, list_all-from_AllPass}
use Rattle.sg_model.specs.declared.ticket.Ticket.{Ticket}
use Rattle.sg_model.specs.Commitments.{is_best, sum_a, sum_d, take_of}
use Rattle.sg_model.specs.Games.{Game, action_count}
use Rattle.sg_model.specs.PayoffLaws.{IsTake}
use Rattle.sg_model.specs.Sums.{greatest, numbers}
use Rattle.sg_model.proofs.Numbers.{All-numbers, All-numbers-at, InRange-numbers, numbers-some, map-none}
use Rattle.sg_model.proofs.Greatest.{Contains-head, Contains-tail}

pub greatest-reached : (xs : List ℤ) → xs ≢ [] → Contains xs (greatest xs)
greatest-reached [] some = absurd (some refl)
greatest-reached (x ∷ xs) some =
    elim (fold-int_max_reached x xs (fold int_max x xs) refl) [ inl e ↦ subst (Contains (x ∷ xs)) (sym e) (Contains-head x xs) | inr h ↦ Contains-tail x xs (fold int_max x xs) h ]

pub greatest-bounds : (xs : List ℤ) → All (λ x. x ≤ℤ greatest xs) xs
greatest-bounds [] = All-nil (λ x. x ≤ℤ greatest [])
greatest-bounds (x ∷ xs) =
    let r = fold-int_max_bounds x xs (fold int_max x xs) refl in
    All-cons (λ y. y ≤ℤ greatest (x ∷ xs)) x xs r.0 r.1

-- an item at which f is greatest
pub top_item : {X : Type 0} (f : X → ℤ) (xs : List X) → xs ≢ [] → (x : X) × Contains xs x × All (λ y. f y ≤ℤ f x) xs
top_item f [] some = absurd (some refl)
top_item f (x ∷ []) some = (x, Contains-head x [], All-cons (λ y. f y ≤ℤ f x) x [] (omega (arith, ints)) (All-nil (λ y. f y ≤ℤ f x)))
top_item f (x ∷ y ∷ ys) some =
    let rest = top_item f (y ∷ ys) (λ e. cc) in
    let z = rest.0 in
    by_lt_z (f z) (f x)
    (λ lt. (x, Contains-head x (y ∷ ys), All-cons (λ w. f w ≤ℤ f x) x (y ∷ ys) (omega (arith, ints)) (λ i d h. omega (arith, ints, rest.2 i d h))))
    (λ le. (z, Contains-tail x (y ∷ ys) z rest.1, All-cons (λ w. f w ≤ℤ f z) x (y ∷ ys) le rest.2))

pub filter_none : {X : Type 0} (p : X → Bool) (xs : List X) → filter p xs ≡ [] → All (λ x. p x ≡ false) xs
filter_none p [] e = All-nil (λ x. p x ≡ false)
filter_none p (x ∷ xs) e =
    elim (p x) as (λ b. p x ≡ b → cond b (x ∷ filter p xs) (filter p xs) ≡ [] → All (λ x. p x ≡ false) (x ∷ xs))
    [ true ↦ (λ q r. cc) | false ↦ (λ q r. All-cons (λ x. p x ≡ false) x xs q (filter_none p xs r)) ] refl e

-- where all that pass have a property, each that passes has it
pub passes_have : {X : Type 0} (p : X → Bool) (P : X → Type 0) (xs : List X) → All P (filter p xs) → All (λ x. p x ≡ true → P x) xs
passes_have p P [] h = All-nil (λ x. p x ≡ true → P x)
passes_have p P (x ∷ xs) h =
    elim (p x) as (λ b. p x ≡ b → All P (cond b (x ∷ filter p xs) (filter p xs)) → All (λ x. p x ≡ true → P x) (x ∷ xs)) [
      | true ↦ (λ q r. All-cons (λ x. p x ≡ true → P x) x xs (λ _. All-head P x (filter p xs) r) (passes_have p P xs (All-tail P x (filter p xs) r)))
      | false ↦ (λ q r. All-cons (λ x. p x ≡ true → P x) x xs (λ t. absurd (let e : true ≡ false = sym t ∙ q in cc)) (passes_have p P xs r))
    ] refl h

pub from_map : {X Y : Type 0} (f : X → Y) (xs : List X) (y : Y) → Contains (map f xs) y → (x : X) × Contains xs x × (f x ≡ y)
from_map f [] y h = absurd (omega (arith, h.1))
from_map f (x ∷ xs) y (zero, lt, e) = (x, Contains-head x xs, e)
from_map f (x ∷ xs) y (suc i, lt, e) = let r = from_map f xs y (i, omega arith, e) in (r.0, Contains-tail x xs r.0 r.1, r.2)

-- an action that is best for type l and gives the defender what `take_of` says
pub record Takes (g : Game) (k : List Ticket) (l : ℕ) (a : ℕ) : Type 0 where
  pub from_one : 1 ≤ a
  pub in_range : a ≤ action_count g l
  pub best : (b : ℕ) → 1 ≤ b → b ≤ action_count g l → sum_a g k l b ≤ℤ sum_a g k l a
  pub gives : take_of g k l ≡ sum_d g k l a

pub take_of-reached : (g : Game) (k : List Ticket) (l : ℕ) → 1 ≤ action_count g l → (a : ℕ) × Takes g k l a
take_of-reached g k l some =
    let m : ℕ = action_count g l in
    let test = is_best g k l in
    let bests : List ℕ = filter test (numbers m) in
    let top = top_item (sum_a g k l) (numbers m) (numbers-some m some) in
    let top_best : test top.0 ≡ true = list_all-from_AllPass (λ b. int_le (sum_a g k l b) (sum_a g k l top.0)) (numbers m) (λ i d h. sym (omega (arith, ints, top.2 i d h))) in
    let some_best : bests ≢ [] = λ e. let q : test top.0 ≡ false = All-contains (λ x. test x ≡ false) (numbers m) top.0 (filter_none test (numbers m) e) top.1 in let r : true ≡ false = sym top_best ∙ q in cc in
    let some_map : map (sum_d g k l) bests ≢ [] = λ e. some_best (map-none (sum_d g k l) bests e) in
    let r = from_map (sum_d g k l) bests (greatest (map (sum_d g k l) bests)) (greatest-reached (map (sum_d g k l) bests) some_map) in
    let a : ℕ = r.0 in
    let passes : test a ≡ true = All-contains (λ x. test x ≡ true) bests a (filter_passes test (numbers m)) r.1 in
    let range = All-contains (InRange-numbers m) bests a (All-filter test (InRange-numbers m) (numbers m) (All-numbers (InRange-numbers m) m (λ t low high. (low, high)))) r.1 in
    let each = AllPass-from_list_all (λ b. int_le (sum_a g k l b) (sum_a g k l a)) (numbers m) passes in (
      a,
      record {
        from_one = range.0;
        in_range = range.1;
        gives = sym r.2;
        best = λ b low high. let q : int_le (sum_a g k l b) (sum_a g k l a) ≡ true = All-numbers-at (λ b. int_le (sum_a g k l b) (sum_a g k l a) ≡ true) m each b low high in omega (arith, ints, q);
      },
    )

pub All-from_map : {X Y : Type 0} (f : X → Y) (P : Y → Type 0) (xs : List X) → All P (map f xs) → All (λ x. P (f x)) xs
All-from_map f P [] h = All-nil (λ x. P (f x))
All-from_map f P (x ∷ xs) h = All-cons (λ x. P (f x)) x xs (All-head P (f x) (map f xs) h) (All-from_map f P xs (All-tail P (f x) (map f xs) h))

pub is_best-from : (g : Game) (k : List Ticket) (l a : ℕ) → ((b : ℕ) → 1 ≤ b → b ≤ action_count g l → sum_a g k l b ≤ℤ sum_a g k l a) → is_best g k l a ≡ true
is_best-from g k l a best =
    list_all-from_AllPass (λ b. int_le (sum_a g k l b) (sum_a g k l a)) (numbers (action_count g l))
    (All-numbers (λ b. int_le (sum_a g k l b) (sum_a g k l a) ≡ true) (action_count g l) (λ b from_one in_range. sym (omega (arith, ints, best b from_one in_range))))

pub is_best-out : (g : Game) (k : List Ticket) (l a : ℕ) → is_best g k l a ≡ true → (b : ℕ) → 1 ≤ b → b ≤ action_count g l → sum_a g k l b ≤ℤ sum_a g k l a
is_best-out g k l a e b low high =
    let each = AllPass-from_list_all (λ b. int_le (sum_a g k l b) (sum_a g k l a)) (numbers (action_count g l)) e in
    let q : int_le (sum_a g k l b) (sum_a g k l a) ≡ true = All-numbers-at (λ b. int_le (sum_a g k l b) (sum_a g k l a) ≡ true) (action_count g l) each b low high in
    omega (arith, ints, q)

pub is_best-not : (g : Game) (k : List Ticket) (l a : ℕ) → (((b : ℕ) → 1 ≤ b → b ≤ action_count g l → sum_a g k l b ≤ℤ sum_a g k l a) → ⊥) → is_best g k l a ≡ false
is_best-not g k l a none =
    elim (is_best g k l a) as (λ b. is_best g k l a ≡ b → is_best g k l a ≡ false) [ true ↦ (λ e. absurd (none (is_best-out g k l a e))) | false ↦ (λ e. e) ] refl

-- no best action gives the defender more than `take_of` says
pub take_of-bounds : (g : Game) (k : List Ticket) (l a : ℕ) → 1 ≤ a → a ≤ action_count g l
    → ((b : ℕ) → 1 ≤ b → b ≤ action_count g l → sum_a g k l b ≤ℤ sum_a g k l a) → sum_d g k l a ≤ℤ take_of g k l
take_of-bounds g k l a low high best =
    let m : ℕ = action_count g l in
    let test = is_best g k l in
    let Below : ℕ → Type 0 = λ (b : ℕ). sum_d g k l b ≤ℤ take_of g k l in
    let below : All Below (filter test (numbers m)) = All-from_map (sum_d g k l) (λ z. z ≤ℤ take_of g k l) (filter test (numbers m)) (greatest-bounds (map (sum_d g k l) (filter test (numbers m)))) in
    All-numbers-at (λ b. test b ≡ true → Below b) m (passes_have test Below (numbers m) below) a low high (is_best-from g k l a best)

pub take_of-is_take : (g : Game) (k : List Ticket) (l : ℕ) → 1 ≤ action_count g l → IsTake g k l (take_of g k l)
take_of-is_take g k l some =
    let r = take_of-reached g k l some in
    record {
      response = r.0;
      is_best = record { from_one = r.1.from_one; in_range = r.1.in_range; best = r.1.best };
      gives = r.1.gives;
      most = λ a h. take_of-bounds g k l a h.from_one h.in_range h.best;
    }

-- there is one such number
pub is_take-one : (g : Game) (k : List Ticket) (l : ℕ) → 1 ≤ action_count g l → (taken : ℤ) → IsTake g k l taken → taken ≡ take_of g k l
is_take-one g k l some taken h =
    let own = take_of-is_take g k l some in
    omega (arith, ints, h.gives, own.gives, h.most own.response own.is_best, own.most h.response h.is_best)
