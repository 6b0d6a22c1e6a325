-- What the promises of a game file give: people, scales, sizes and ranges.
use Rattle.std.proofs.Common.{◌≡◌, ◌∙◌, ◌≢◌, ℕ, zero, suc, ◌≤◌, Bool, true, false, cond, List, [], ◌∷◌, length, ℤ, pos, ◌^◌, ◌≤ℤ◌, ap, subst, sym, refl, arith, ◌⊎◌, inl, inr, Option, Some, None, slice_index_or, slice_index}
use Rattle.std.specs.List.{All}
use Rattle.std.proofs.lemmas.Int.{ints}
use Rattle.std.proofs.lemmas.List.Elements.{All-nil, All-head, All-tail, All-weaker, All-same}
use Rattle.sg_model.specs.declared.kind.Kind.{Kind}
use Rattle.sg_model.specs.declared.kind.Kind.TheVariants.{Security, Matrix}
use Rattle.sg_model.specs.Sums.{nth}
use Rattle.sg_model.specs.Games.{Attacker, Game, attacker, is_kind_matrix, is_matrix, nobody, nothing, payoff, resource_count}
use Rattle.sg_model.specs.Plays.{covers, pay_a, pay_d}
use Rattle.sg_model.specs.Payoffs.{IsPeopled}
use Rattle.sg_model.specs.Origami.{IsOrigami, IsScaled}
use Rattle.sg_model.specs.Limits.{IsDefended, IsGame, IsMatrixGame, IsMatrixType, IsPay, IsPayoff, IsSecurityGame, IsSecurityType, IsWithin, is_scaled}
use Rattle.sg_model.proofs.Forms.{no_matrix}

-- a game of either form
pub record IsSecure (g : Game) : Type 0 where
  pub kind : g.kind ≡ Security
  pub game : IsSecurityGame g

pub record IsTabled (g : Game) : Type 0 where
  pub kind : g.kind ≡ Matrix
  pub game : IsMatrixGame g

pub game_cases : (g : Game) → IsGame g → IsSecure g ⊎ IsTabled g
game_cases g h =
    elim g.kind as (λ (x : Kind). g.kind ≡ x → IsSecure g ⊎ IsTabled g) [
      | Security ↦ (λ e. inl (record { kind = e; game = subst (λ (x : Kind). IsSecurityGame (record g { kind = x })) (sym e) (rw e at h) }))
      | Matrix ↦ (λ e. inr (record { kind = e; game = subst (λ (x : Kind). IsMatrixGame (record g { kind = x })) (sym e) (rw e at h) }))
    ] refl

pub yes_matrix : (g : Game) → g.kind ≡ Matrix → is_matrix g ≡ true
yes_matrix g e = ap is_kind_matrix e

-- an item of a list all of whose items have a property
pub nth-all : {X : Type 0} (P : X → Type 0) (xs : List X) (d : X) → All P xs → (i : ℕ) → 1 ≤ i → i ≤ length xs → P (nth xs i d)
nth-all P xs d h zero low high = absurd (omega arith)
nth-all P xs d h (suc k) low high = h k d (omega arith)

item-or : {X : Type 0} (P : X → Type 0) (xs : List X) (d : X) → P d → All P xs → (k : ℕ) → P (slice_index_or xs k d)
item-or P [] d none h k = none
item-or P (x ∷ xs) d none h zero = All-head P x xs h
item-or P (x ∷ xs) d none h (suc k) = item-or P xs d none (All-tail P x xs h) k

pub nth-or : {X : Type 0} (P : X → Type 0) (xs : List X) (d : X) → P d → All P xs → (i : ℕ) → P (nth xs i d)
nth-or P xs d none h zero = none
nth-or P xs d none h (suc k) = item-or P xs d none h k

pub All-none : {X : Type 0} (P : X → Type 0) (xs : List X) → xs ≡ [] → All P xs
All-none P xs e = All-same P xs [] e (All-nil P)

pub peopled : (g : Game) → IsGame g → IsPeopled g
peopled g h = elim (game_cases g h) [
  | inl s ↦ record {
    types = s.game.types.count.at_least;
    actions = λ l low high. rw (no_matrix g s.kind) s.game.target_count.at_least;
    priors = λ l low high. (nth-all (IsSecurityType (length g.goals)) g.types nobody s.game.each_type l low high).prior.at_least;
  }
  | inr m ↦ record {
    types = m.game.types.count.at_least;
    actions = λ l low high. rw (yes_matrix g m.kind) (nth-all (IsMatrixType (length g.goals)) g.types nobody m.game.each_type l low high).action_count.at_least;
    priors = λ l low high. (nth-all (IsMatrixType (length g.goals)) g.types nobody m.game.each_type l low high).prior.at_least;
  }
]

some_of : {X : Type 0} (o : Option X) → o ≢ None → (x : X) × (o ≡ Some x)
some_of (Some x) h = (x, refl)
some_of None h = absurd (h refl)

counted : (g : Game) (patrols : ℕ) → g.patrols ≡ Some patrols → resource_count g ≡ patrols
counted g patrols e = rw e refl

pub origami : (g : Game) → IsGame g → is_scaled g ≡ true → IsOrigami g
origami g h scaled = elim (game_cases g h) [
  | inl s ↦ (
      let positive : pos 1 ≤ℤ g.scale = omega (arith, ints, scaled) in
      let is = s.game.scaled positive in
      let found = some_of g.patrols is.identical in
      let first : 1 ≤ length g.types = omega (arith, is.one_type) in
      let the_type = nth-all (IsSecurityType (length g.goals)) g.types nobody s.game.each_type 1 (omega arith) first in
      let gaps = nth-all (λ (x : Attacker). All (IsScaled g.scale) x.payoffs) g.types nobody is.targets 1 (omega arith) first in
      record {
        security = s.kind;
        identical = found.1 ∙ ap (λ (k : ℕ). Some k) (sym (counted g found.0 found.1));
        scaled = positive;
        one_type = is.one_type;
        prior_one = nth-all (λ (x : Attacker). x.prior ≡ pos 1) g.types nobody is.prior_one 1 (omega arith) first;
        targets = λ t low high. nth-all (IsScaled g.scale) (attacker g 1).payoffs nothing gaps t low (omega (arith, high, the_type.one_each));
      })
  | inr m ↦ absurd (omega (arith, ints, scaled, m.game.no_scale))
]

-- a game that declares a scale, within its limits
pub record IsLimited (g : Game) : Type 0 where
  pub origami : IsOrigami g
  pub few_patrols : resource_count g ≤ 200
  pub scale : IsWithin (pos 1) (pos (2 ^ 32)) g.scale
  pub targets : (1 ≤ length g.goals) × (length g.goals ≤ 10000)

few_patrols : (g : Game) (patrols : ℕ) → g.patrols ≡ Some patrols → IsDefended g g.patrols → is_scaled g ≡ true → patrols ≤ 200
few_patrols g patrols e h scaled = let d = rw e at h in let few = d.few in let limit = rw scaled at few in limit

pub limited : (g : Game) → IsGame g → is_scaled g ≡ true → IsLimited g
limited g h scaled =
    let o = origami g h scaled in
    elim (game_cases g h) [
      | inl s ↦ (
          let goals = s.game.target_count in
          let few = goals.at_most in
          let limit = rw scaled at few in
          record {
            origami = o;
            few_patrols = few_patrols g (resource_count g) o.identical s.game.defended scaled;
            scale = record { at_least = o.scaled; at_most = s.game.scale_range.at_most };
            targets = (goals.at_least, limit);
          })
      | inr m ↦ absurd (omega (arith, ints, scaled, m.game.no_scale))
    ]

no_pay : IsPay (pos 0)
no_pay = record { at_least = omega (arith, ints); at_most = omega (arith, ints) }

no_payoff : IsPayoff nothing
no_payoff = record { dc = no_pay; du = no_pay; ac = no_pay; au = no_pay }

abbrev PaysInRange : Attacker → Type 0
PaysInRange x = All IsPayoff x.payoffs

pub payoff-in_range : (g : Game) → IsGame g → (l t : ℕ) → IsPayoff (payoff g l t)
payoff-in_range g h l t =
    let each : All PaysInRange g.types = elim (game_cases g h) [
      | inl s ↦ All-weaker (IsSecurityType (length g.goals)) PaysInRange (λ x is. is.pays) g.types s.game.each_type
      | inr m ↦ All-weaker (IsMatrixType (length g.goals)) PaysInRange (λ x is. All-none IsPayoff x.payoffs is.no_payoffs) g.types m.game.each_type
    ] in
    nth-or IsPayoff (attacker g l).payoffs nothing no_payoff (nth-or PaysInRange g.types nobody (All-nil IsPayoff) each l) t

-- a place of a table
cell : (table : List (List ℤ)) → All (λ row. All IsPay row) table → (r a : ℕ) → IsPay (nth (nth table r []) a (pos 0))
cell table h r a = nth-or IsPay (nth table r []) (pos 0) no_pay (nth-or (λ row. All IsPay row) table [] (All-nil IsPay) h r) a

cond-pay : (b : Bool) (x y : ℤ) → IsPay x → IsPay y → IsPay (cond b x y)
cond-pay true x y h k = h
cond-pay false x y h k = k

abbrev TablesInRange : Attacker → Type 0
TablesInRange x = All (λ row. All IsPay row) x.leader × All (λ row. All IsPay row) x.follower

tables-in_range : (g : Game) → IsTabled g → (l : ℕ) → TablesInRange (attacker g l)
tables-in_range g m l =
    nth-or TablesInRange g.types nobody (All-nil (λ row. All IsPay row), All-nil (λ row. All IsPay row))
    (All-weaker (IsMatrixType (length g.goals)) TablesInRange (λ x is. (is.leader.pays, is.follower.pays)) g.types m.game.each_type) l

pub pay_d-in_range : (g : Game) → IsGame g → (l : ℕ) (play : List ℕ) (a : ℕ) → IsPay (pay_d g l play a)
pay_d-in_range g h l play a = elim (game_cases g h) [
  | inl s ↦ (let p = payoff-in_range g h l a in rw (no_matrix g s.kind) (cond-pay (covers g play a) (payoff g l a).dc (payoff g l a).du p.dc p.du))
  | inr m ↦ rw (yes_matrix g m.kind) (cell (attacker g l).leader (tables-in_range g m l).0 (slice_index play 0) a)
]

pub pay_a-in_range : (g : Game) → IsGame g → (l : ℕ) (play : List ℕ) (a : ℕ) → IsPay (pay_a g l play a)
pay_a-in_range g h l play a = elim (game_cases g h) [
  | inl s ↦ (let p = payoff-in_range g h l a in rw (no_matrix g s.kind) (cond-pay (covers g play a) (payoff g l a).ac (payoff g l a).au p.ac p.au))
  | inr m ↦ rw (yes_matrix g m.kind) (cell (attacker g l).follower (tables-in_range g m l).1 (slice_index play 0) a)
]
