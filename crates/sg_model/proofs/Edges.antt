-- Where the limits of a game file lie.
use Rattle.std.proofs.Common.{◌≡◌, ℕ, zero, suc, ◌+◌, ◌-◌, ◌*◌, ◌<◌, ◌≤◌, ◌^◌, ◌↔◌, cond, List, [], ◌∷◌, codes, length, map, ℤ, pos, negsuc, ◌≤ℤ◌, int_rem, unsigned_abs, refl, arith}
use Rattle.std.specs.List.{All}
use Rattle.std.proofs.lemmas.Int.{ints, rem_below}
use Rattle.std.proofs.lemmas.List.{length-map}
use Rattle.std.proofs.lemmas.List.Elements.{All-cons, All-head, All-map, All-nil}
use Rattle.sg_model.specs.Games.{Attacker, Named, Payoff}
use Rattle.sg_model.specs.Origami.{IsScaled}
use Rattle.sg_model.specs.Names.{AreNames, is_name}
use Rattle.sg_model.specs.Limits.{AreListed, AreMembers, IsGame, IsMatrixGame, IsMatrixType, IsPay, IsPayoff, IsSecurityGame, IsSecurityType, IsTable, IsWithin, is_scaled}
use Rattle.sg_model.specs.Examples.{letters, plain, robber}
use Rattle.sg_model.specs.LimitLaws.{IsInRange, LimitsAreExact, against, on_one, on_rows, on_targets, player_on, scheduled, single}
use Rattle.sg_model.proofs.Deciding.{at_most, at_most-either, count_by, members_by, names_by, pay_by, payoff_by, range_by}

-- a fact about all items of a list that says nothing of the item
each : {X : Type 0} (P : X → Type 0) → ((x : X) → P x) → (xs : List X) → All P xs
each P h [] = All-nil P
each P h (x ∷ xs) = All-cons P x xs (h x) (each P h xs)

plain-pays : IsPayoff plain
plain-pays = payoff_by plain refl

abs-zero : (z : ℤ) → unsigned_abs z < 1 → z ≡ pos 0
abs-zero (pos zero) h = refl
abs-zero (pos (suc n)) h = absurd (omega (arith, h))
abs-zero (negsuc n) h = absurd (omega (arith, h))

plain-scaled : (scale : ℤ) → IsScaled scale plain
plain-scaled scale = record { defender_gains = omega (arith, ints); attacker_loses = omega (arith, ints); divides = abs-zero (int_rem scale (pos 1)) (rem_below scale (pos 1) (at_most refl)) }

letters-names : AreNames (letters 1)
unfolding is_name
letters-names = names_by (letters 1) refl

thief-names : AreNames (codes "thief" ∷ [])
unfolding is_name
thief-names = names_by (codes "thief" ∷ []) refl

robber-on : (name : List ℕ) (names : List (List ℕ)) → IsSecurityType (length names) (robber name 1 (map (λ name. plain) names))
robber-on name names = record {
  prior = range_by (pos 1) (pos (2 ^ 20)) (pos 1) refl;
  one_each = length-map names (λ name. plain);
  pays = All-map IsPayoff (λ name. plain) names (each (λ name. IsPayoff plain) (λ name. plain-pays) names);
  no_actions = refl;
  no_leader = refl;
  no_follower = refl;
}

on_targets-game : (names : List (List ℕ)) (patrols : ℕ) (scale : ℤ) → AreNames names → 1 ≤ length names → length names ≤ cond (is_scaled (on_targets names patrols scale)) 10000 200
    → patrols ≤ cond (is_scaled (on_targets names patrols scale)) 200 32 → IsWithin (pos 0) (pos (2 ^ 32)) scale
    → (scale ≡ pos 0 → (length names ≤ 200) × (patrols ≤ 32)) → IsGame (on_targets names patrols scale)
on_targets-game names patrols scale named low high few range unscaled =
    let x : Attacker = robber (codes "thief") 1 (map (λ name. plain) names) in
    record {
      targets = named;
      target_count = record { at_least = low; at_most = high };
      scale_range = range;
      defended = record { few = few; no_schedules = refl; no_resources = refl };
      types = record { count = count_by 1 8 1 refl; names = thief-names };
      each_type = All-cons (IsSecurityType (length names)) x [] (robber-on (codes "thief") names) (All-nil (IsSecurityType (length names)));
      few_rows = λ none. let h = unscaled none in omega (arith, h.0, h.1);
      scaled = λ _. record {
        identical = λ e. cc;
        one_type = refl;
        prior_one = All-cons (λ (y : Attacker). y.prior ≡ pos 1) x [] refl (All-nil (λ (y : Attacker). y.prior ≡ pos 1));
        targets =
            All-cons (λ (y : Attacker). All (IsScaled scale) y.payoffs) x [] (All-map (IsScaled scale) (λ name. plain) names (each (λ name. IsScaled scale plain) (λ name. plain-scaled scale) names))
            (All-nil (λ (y : Attacker). All (IsScaled scale) y.payoffs));
      };
    }

unscaled_targets : (names : List (List ℕ)) → AreNames names → IsGame (on_targets names 1 (pos 0)) ↔ ((1 ≤ length names) × (length names ≤ 200))
unscaled_targets names named = (
  λ is. let h : IsSecurityGame (on_targets names 1 (pos 0)) = is in (h.target_count.at_least, h.target_count.at_most),
  λ h. on_targets-game names 1 (pos 0) named h.0 h.1 (at_most refl) (range_by (pos 0) (pos (2 ^ 32)) (pos 0) refl) (λ _. (h.1, at_most refl)),
)

scaled_targets : (names : List (List ℕ)) → AreNames names → IsGame (on_targets names 1 (pos 1)) ↔ ((1 ≤ length names) × (length names ≤ 10000))
scaled_targets names named = (
  λ is. let h : IsSecurityGame (on_targets names 1 (pos 1)) = is in (h.target_count.at_least, h.target_count.at_most),
  λ h. on_targets-game names 1 (pos 1) named h.0 h.1 (at_most refl) (range_by (pos 0) (pos (2 ^ 32)) (pos 1) refl) (λ none. absurd (omega (arith, ints, none))),
)

unscaled_patrols : (n : ℕ) → IsGame (on_targets (letters 1) n (pos 0)) ↔ (n ≤ 32)
unscaled_patrols n = (
  λ is. let h : IsSecurityGame (on_targets (letters 1) n (pos 0)) = is in h.defended.few,
  λ h. on_targets-game (letters 1) n (pos 0) letters-names (at_most refl) (at_most refl) h (range_by (pos 0) (pos (2 ^ 32)) (pos 0) refl) (λ _. (at_most refl, h)),
)

scaled_patrols : (n : ℕ) → IsGame (on_targets (letters 1) n (pos 1)) ↔ (n ≤ 200)
scaled_patrols n = (
  λ is. let h : IsSecurityGame (on_targets (letters 1) n (pos 1)) = is in h.defended.few,
  λ h. on_targets-game (letters 1) n (pos 1) letters-names (at_most refl) (at_most refl) h (range_by (pos 0) (pos (2 ^ 32)) (pos 1) refl) (λ none. absurd (omega (arith, ints, none))),
)

scales : (n : ℕ) → IsGame (on_targets (letters 1) 1 (pos n)) ↔ (n ≤ 2 ^ 32)
scales zero = (λ _. omega arith, λ _. (unscaled_targets (letters 1) letters-names).1 (at_most refl, at_most refl))
scales (suc n) = (
  λ is. let h : IsSecurityGame (on_targets (letters 1) 1 (pos (suc n))) = is in let high : pos (suc n) ≤ℤ pos (2 ^ 32) = h.scale_range.at_most in omega (arith, ints, high),
  λ h. on_targets-game (letters 1) 1 (pos (suc n)) letters-names (at_most refl) (at_most-either (is_scaled (on_targets (letters 1) 1 (pos (suc n)))) 1 10000 200 (at_most refl) (at_most refl))
      (at_most-either (is_scaled (on_targets (letters 1) 1 (pos (suc n)))) 1 200 32 (at_most refl) (at_most refl)) (record { at_least = omega (arith, ints); at_most = omega (arith, ints, h) })
      (λ none. absurd (omega (arith, ints, none))),
)

on_one-game : (n : ℕ) (p : Payoff) → 1 ≤ n → n ≤ 2 ^ 20 → IsPayoff p → IsGame (on_one n p)
on_one-game n p low high pays =
    let x : Attacker = robber (codes "thief") n (p ∷ []) in
    record {
      targets = letters-names;
      target_count = count_by 1 200 1 refl;
      scale_range = range_by (pos 0) (pos (2 ^ 32)) (pos 0) refl;
      defended = record { few = at_most refl; no_schedules = refl; no_resources = refl };
      types = record { count = count_by 1 8 1 refl; names = thief-names };
      each_type =
          All-cons (IsSecurityType 1) x []
          (record {
            prior = record { at_least = omega (arith, ints, low); at_most = omega (arith, ints, high) };
            one_each = refl;
            pays = All-cons IsPayoff p [] pays (All-nil IsPayoff);
            no_actions = refl;
            no_leader = refl;
            no_follower = refl;
          })
          (All-nil (IsSecurityType 1));
      few_rows = λ _. at_most refl;
      scaled = λ positive. absurd (omega (arith, ints, positive));
    }

only_type : (n : ℕ) (p : Payoff) → IsGame (on_one n p) → IsSecurityType 1 (robber (codes "thief") n (p ∷ []))
only_type n p is = let h : IsSecurityGame (on_one n p) = is in All-head (IsSecurityType 1) (robber (codes "thief") n (p ∷ [])) [] h.each_type

priors : (n : ℕ) → IsGame (on_one n plain) ↔ ((1 ≤ n) × (n ≤ 2 ^ 20))
priors n = (
  λ is. let h = (only_type n plain is).prior in let low : pos 1 ≤ℤ pos n = h.at_least in let high : pos n ≤ℤ pos (2 ^ 20) = h.at_most in (omega (arith, ints, low), omega (arith, ints, high)),
  λ h. on_one-game n plain h.0 h.1 plain-pays,
)

in_range : (z : ℤ) → IsPay z ↔ IsInRange z
in_range z = (λ is. (is.at_least, is.at_most), λ h. record { at_least = h.0; at_most = h.1 })

payoffs : (p : Payoff) → IsGame (on_one 1 p) ↔ (IsInRange p.dc × IsInRange p.du × IsInRange p.ac × IsInRange p.au)
payoffs p = (
  λ is. let h : IsPayoff p = All-head IsPayoff p [] (only_type 1 p is).pays in ((in_range p.dc).0 h.dc, (in_range p.du).0 h.du, (in_range p.ac).0 h.ac, (in_range p.au).0 h.au),
  λ h. on_one-game 1 p (at_most refl) (at_most refl) (record { dc = (in_range p.dc).1 h.0; du = (in_range p.du).1 h.1; ac = (in_range p.ac).1 h.2; au = (in_range p.au).1 h.3 }),
)

-- the names of attackers that are made of names
robber_names : (payoffs : List Payoff) (types : List (List ℕ)) → map (λ (x : Attacker). x.name) (map (λ type. robber type 1 payoffs) types) ≡ types
robber_names payoffs [] = refl
robber_names payoffs (name ∷ types) = rw (robber_names payoffs types) refl

against-game : (types names : List (List ℕ)) (patrols : ℕ) → AreNames types → 1 ≤ length types → length types ≤ 8 → AreNames names → 1 ≤ length names → length names ≤ 200 → patrols ≤ 32
    → 1 + patrols + 2 * length names + length types * (length names - 1) ≤ 1536 → IsGame (against types names patrols)
against-game types names patrols kinds low high named first last few rows =
    let payoffs : List Payoff = map (λ name. plain) names in
    let make : List ℕ → Attacker = λ type. robber type 1 payoffs in
    let count : length (map make types) ≡ length types = length-map types make in
    record {
      targets = named;
      target_count = record { at_least = first; at_most = last };
      scale_range = range_by (pos 0) (pos (2 ^ 32)) (pos 0) refl;
      defended = record { few = few; no_schedules = refl; no_resources = refl };
      types = record { count = record { at_least = omega (arith, low, count); at_most = omega (arith, high, count) }; names = rw (robber_names payoffs types) kinds };
      each_type = All-map (IsSecurityType (length names)) make types (each (λ type. IsSecurityType (length names) (make type)) (λ type. robber-on type names) types);
      few_rows = λ _. rw count rows;
      scaled = λ positive. absurd (omega (arith, ints, positive));
    }

types : (names : List (List ℕ)) → AreNames names → IsGame (against names (letters 1) 1) ↔ ((1 ≤ length names) × (length names ≤ 8))
types names named =
    let make : List ℕ → Attacker = λ type. robber type 1 (plain ∷ []) in
    let count : length (map make names) ≡ length names = length-map names make in (
      λ is. let h : IsSecurityGame (against names (letters 1) 1) = is in let k = h.types.count in (omega (arith, k.at_least, count), omega (arith, k.at_most, count)),
      λ h. against-game names (letters 1) 1 named h.0 h.1 letters-names (at_most refl) (at_most refl) (at_most refl) (omega (arith, h.1)),
    )

eight-names : AreNames (letters 8)
unfolding is_name
eight-names = names_by (letters 8) refl

program : (names : List (List ℕ)) → AreNames names → length names ≡ 154 → (n : ℕ) → IsGame (against (letters 8) names n) ↔ (n ≤ 3)
program names named size n = (
  λ is. let h : IsSecurityGame (against (letters 8) names n) = is in let few : 1 + n + 2 * length names + 8 * (length names - 1) ≤ 1536 = h.few_rows refl in omega (arith, few, size),
  λ h. against-game (letters 8) names n eight-names (at_most refl) (at_most refl) named (omega (arith, size)) (omega (arith, size)) (omega (arith, h)) (omega (arith, h, size)),
)

single_names : (names : List (List ℕ)) → map (λ (x : Named). x.name) (map single names) ≡ names
single_names [] = refl
single_names (name ∷ names) = rw (single_names names) refl

scheduled-game : (schedules resources : List (List ℕ)) → AreNames schedules → length schedules ≤ 500 → AreNames resources → length resources ≤ 32
    → All (λ (x : Named). AreMembers (length (map single schedules)) 500 x.members) (map single resources) → IsGame (scheduled schedules resources)
scheduled-game schedules resources named some others few known =
    let count : length (map single schedules) ≡ length schedules = length-map schedules single in
    let counted : length (map single resources) ≡ length resources = length-map resources single in
    record {
      targets = letters-names;
      target_count = count_by 1 200 1 refl;
      scale_range = range_by (pos 0) (pos (2 ^ 32)) (pos 0) refl;
      defended = record {
        schedules = record {
          few = omega (arith, some, count);
          names = rw (single_names schedules) named;
          members = All-map (λ (x : Named). AreMembers 1 200 x.members) single schedules (each (λ name. AreMembers 1 200 (1 ∷ [])) (λ name. members_by 1 200 (1 ∷ []) refl) schedules);
        };
        resources = record { few = omega (arith, few, counted); names = rw (single_names resources) others; members = known };
      };
      types = record { count = count_by 1 8 1 refl; names = thief-names };
      each_type = All-cons (IsSecurityType 1) (robber (codes "thief") 1 (plain ∷ [])) [] (robber-on (codes "thief") (letters 1)) (All-nil (IsSecurityType 1));
      few_rows = λ _. omega (arith, few, counted);
      scaled = λ positive. absurd (omega (arith, ints, positive));
    }

no-names : AreNames []
unfolding is_name
no-names = names_by [] refl

schedules : (names : List (List ℕ)) → AreNames names → IsGame (scheduled names []) ↔ (length names ≤ 500)
schedules names named = (
  λ is. let h : IsSecurityGame (scheduled names []) = is in let k : AreListed (scheduled names []) = h.defended in omega (arith, k.schedules.few, length-map names single),
  λ h. scheduled-game names [] named h no-names (at_most refl) (All-nil (λ (x : Named). AreMembers (length (map single names)) 500 x.members)),
)

resources : (names : List (List ℕ)) → AreNames names → IsGame (scheduled (letters 1) names) ↔ (length names ≤ 32)
resources names named = (
  λ is. let h : IsSecurityGame (scheduled (letters 1) names) = is in let k : AreListed (scheduled (letters 1) names) = h.defended in omega (arith, k.resources.few, length-map names single),
  λ h. scheduled-game (letters 1) names letters-names (at_most refl) named h
      (All-map (λ (x : Named). AreMembers 1 500 x.members) single names (each (λ name. AreMembers 1 500 (1 ∷ [])) (λ name. members_by 1 500 (1 ∷ []) refl) names)),
)

one-pays : IsPay (pos 1)
one-pays = pay_by (pos 1) refl

same-table : (names actions : List (List ℕ)) → IsTable (length names) (length actions) (map (λ name. map (λ action. pos 1) actions) names)
same-table names actions = record {
  rows = length-map names (λ name. map (λ action. pos 1) actions);
  columns = All-map (λ row. length row ≡ length actions) (λ name. map (λ action. pos 1) actions) names (each (λ name. length (map (λ action. pos 1) actions) ≡ length actions) (λ name. length-map actions (λ action. pos 1)) names);
  pays =
      All-map (λ row. All IsPay row) (λ name. map (λ action. pos 1) actions) names
      (each (λ name. All IsPay (map (λ action. pos 1) actions)) (λ name. All-map IsPay (λ action. pos 1) actions (each (λ action. IsPay (pos 1)) (λ action. one-pays) actions)) names);
}

rows-game : (names actions : List (List ℕ)) → AreNames names → 1 ≤ length names → length names ≤ 4096 → AreNames actions → 1 ≤ length actions → length actions ≤ 64 → IsGame (on_rows names actions)
rows-game names actions named first last called low high = record {
  rows = named;
  row_count = record { at_least = first; at_most = last };
  no_scale = refl;
  no_patrols = refl;
  no_schedules = refl;
  no_resources = refl;
  types = record { count = count_by 1 8 1 refl; names = thief-names };
  each_type =
      All-cons (IsMatrixType (length names)) (player_on names actions) []
      (record {
        prior = range_by (pos 1) (pos (2 ^ 20)) (pos 1) refl;
        no_payoffs = refl;
        action_count = record { at_least = low; at_most = high };
        action_names = called;
        leader = same-table names actions;
        follower = same-table names actions;
      })
      (All-nil (IsMatrixType (length names)));
  few_rows = omega (arith, high);
}

rows : (names : List (List ℕ)) → AreNames names → IsGame (on_rows names (letters 1)) ↔ ((1 ≤ length names) × (length names ≤ 4096))
rows names named = (
  λ is. let h : IsMatrixGame (on_rows names (letters 1)) = is in (h.row_count.at_least, h.row_count.at_most),
  λ h. rows-game names (letters 1) named h.0 h.1 letters-names (at_most refl) (at_most refl),
)

actions : (names : List (List ℕ)) → AreNames names → IsGame (on_rows (letters 1) names) ↔ ((1 ≤ length names) × (length names ≤ 64))
actions names named = (
  λ is.
      let h : IsMatrixGame (on_rows (letters 1) names) = is in
      let k : IsMatrixType 1 (player_on (letters 1) names) = All-head (IsMatrixType 1) (player_on (letters 1) names) [] h.each_type in
      (k.action_count.at_least, k.action_count.at_most),
  λ h. rows-game (letters 1) names letters-names (at_most refl) (at_most refl) named h.0 h.1,
)

pub exact : LimitsAreExact
exact = record {
  targets = unscaled_targets;
  scaled_targets = scaled_targets;
  patrols = unscaled_patrols;
  scaled_patrols = scaled_patrols;
  scales = scales;
  priors = priors;
  payoffs = payoffs;
  types = types;
  program = program;
  schedules = schedules;
  resources = resources;
  rows = rows;
  actions = actions;
}
