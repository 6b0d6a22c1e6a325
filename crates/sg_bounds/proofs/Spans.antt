-- What payoffs and their differences are at most, over plays and over targets.
use Rattle.std.proofs.Common.{◌≡◌, ℕ, ◌≤◌, List, [], ◌∷◌, map, length, ℤ, pos, ◌+ℤ◌, ◌-ℤ◌, ◌≤ℤ◌, arith, flat_map}
use Rattle.std.specs.List.{Contains}
use Rattle.std.proofs.lemmas.Int.{ints, int_max_is}
use Rattle.std.proofs.lemmas.List.Elements.{All-contains}
use Rattle.sg_model.specs.declared.kind.Kind.TheVariants.{Security}
use Rattle.sg_model.specs.Sums.{greatest, least, nth, numbers}
use Rattle.sg_model.specs.Games.{Game, action_count, attacker, payoff}
use Rattle.sg_model.specs.Plays.{IsLegal, covers, pay_a, pay_d}
use Rattle.sg_model.specs.Payoffs.{payoffs_at, payoffs_of, shift_of}
use Rattle.sg_model.proofs.Best.{greatest-bounds}
use Rattle.sg_model.proofs.Forms.{no_matrix}
use Rattle.sg_model.proofs.Greatest.{Contains-head, Contains-tail}
use Rattle.sg_model.proofs.Payoffs.{Contains-flat_map, Contains-map, Contains-numbers, least-bounds, listed, listed_in}
use Rattle.sg_bounds.specs.Sizes.{attacker_most, attacker_payoffs_at, attacker_payoffs_of, attacker_span, defender_most}
use Rattle.sg_num.specs.Exact.{IsAtMost}

-- ---- the attacker

-- what type l gets of a legal play is one of the payoffs that it may get
attacker-listed : (g : Game) (play : List ℕ) → IsLegal g play → (l a : ℕ) → Contains (attacker_payoffs_at g l a) (pay_a g l play a)
attacker-listed g play legal l a = listed_in g play legal (λ (r : ℕ). nth (nth (attacker g l).follower r []) a (pos 0)) (covers g play a) (payoff g l a).ac (payoff g l a).au

-- a payoff that an action may give is one of its type's
pub of-type : (g : Game) (l a : ℕ) (x : ℤ) → 1 ≤ a → a ≤ action_count g l → Contains (attacker_payoffs_at g l a) x → Contains (attacker_payoffs_of g l) x
of-type g l a x low high h = Contains-flat_map (attacker_payoffs_at g l) (numbers (action_count g l)) a x (Contains-numbers (action_count g l) a low high) h

pub play-of-type : (g : Game) (play : List ℕ) → IsLegal g play → (l a : ℕ) → 1 ≤ a → a ≤ action_count g l → Contains (attacker_payoffs_of g l) (pay_a g l play a)
play-of-type g play legal l a low high = of-type g l a (pay_a g l play a) low high (attacker-listed g play legal l a)

-- the payoffs of a target
pub covered-listed : (g : Game) → g.kind ≡ Security → (l a : ℕ) → Contains (attacker_payoffs_at g l a) (payoff g l a).ac
covered-listed g security l a = rw (no_matrix g security) (Contains-head (payoff g l a).ac ((payoff g l a).au ∷ []))

pub uncovered-listed : (g : Game) → g.kind ≡ Security → (l a : ℕ) → Contains (attacker_payoffs_at g l a) (payoff g l a).au
uncovered-listed g security l a = rw (no_matrix g security) (Contains-tail (payoff g l a).ac ((payoff g l a).au ∷ []) (payoff g l a).au (Contains-head (payoff g l a).au []))

pub one-at-most : (g : Game) → pos 1 ≤ℤ attacker_most g
one-at-most g =
    let top : ℤ = greatest (map (attacker_span g) (numbers (length g.types))) in
    omega (arith, ints, int_max_is (pos 1) top)

-- two payoffs of one type differ by the most at most
pub difference-small : (g : Game) (l : ℕ) → 1 ≤ l → l ≤ length g.types → (x y : ℤ) → Contains (attacker_payoffs_of g l) x → Contains (attacker_payoffs_of g l) y → IsAtMost (attacker_most g) (x -ℤ y)
difference-small g l low high x y h k =
    let xs : List ℤ = attacker_payoffs_of g l in
    let spans : List ℤ = map (attacker_span g) (numbers (length g.types)) in
    let top : ℤ = greatest spans in
    let x_high = All-contains (λ z. z ≤ℤ greatest xs) xs x (greatest-bounds xs) h in
    let y_high = All-contains (λ z. z ≤ℤ greatest xs) xs y (greatest-bounds xs) k in
    let x_low = All-contains (λ z. least xs ≤ℤ z) xs x (least-bounds xs) h in
    let y_low = All-contains (λ z. least xs ≤ℤ z) xs y (least-bounds xs) k in
    let inside : Contains spans (attacker_span g l) = Contains-map (attacker_span g) (numbers (length g.types)) l (Contains-numbers (length g.types) l low high) in
    let span : attacker_span g l ≤ℤ top = All-contains (λ z. z ≤ℤ top) spans (attacker_span g l) (greatest-bounds spans) inside in
    let max = int_max_is (pos 1) top in
    (omega (arith, ints, x_low, y_high, span, max), omega (arith, ints, y_low, x_high, span, max))

-- ---- the defender

-- with the shift a payoff is from 1 to the most
pub defender-between : (g : Game) (l a : ℕ) → 1 ≤ l → l ≤ length g.types → 1 ≤ a → a ≤ action_count g l → (x : ℤ) → Contains (payoffs_at g l a) x
    → (pos 1 ≤ℤ (x +ℤ shift_of g)) × ((x +ℤ shift_of g) ≤ℤ defender_most g)
defender-between g l a low high from_one in_list x h =
    let against : Contains (payoffs_of g l) x = Contains-flat_map (payoffs_at g l) (numbers (action_count g l)) a x (Contains-numbers (action_count g l) a from_one in_list) h in
    let every : List ℤ = flat_map (payoffs_of g) (numbers (length g.types)) in
    let inside : Contains every x = Contains-flat_map (payoffs_of g) (numbers (length g.types)) l x (Contains-numbers (length g.types) l low high) against in
    let top = All-contains (λ z. z ≤ℤ greatest every) every x (greatest-bounds every) inside in
    let bottom = All-contains (λ z. least every ≤ℤ z) every x (least-bounds every) inside in
    (omega (arith, ints, bottom), omega (arith, ints, top))

pub play-between : (g : Game) (play : List ℕ) → IsLegal g play → (l a : ℕ) → 1 ≤ l → l ≤ length g.types → 1 ≤ a → a ≤ action_count g l
    → (pos 1 ≤ℤ (pay_d g l play a +ℤ shift_of g)) × ((pay_d g l play a +ℤ shift_of g) ≤ℤ defender_most g)
play-between g play legal l a low high from_one in_list = defender-between g l a low high from_one in_list (pay_d g l play a) (listed g play legal l a)

pub guarded-listed : (g : Game) → g.kind ≡ Security → (l a : ℕ) → Contains (payoffs_at g l a) (payoff g l a).dc
guarded-listed g security l a = rw (no_matrix g security) (Contains-head (payoff g l a).dc ((payoff g l a).du ∷ []))

pub open-listed : (g : Game) → g.kind ≡ Security → (l a : ℕ) → Contains (payoffs_at g l a) (payoff g l a).du
open-listed g security l a = rw (no_matrix g security) (Contains-tail (payoff g l a).dc ((payoff g l a).du ∷ []) (payoff g l a).du (Contains-head (payoff g l a).du []))
