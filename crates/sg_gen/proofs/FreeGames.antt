-- Generated games of identical patrols keep every promise.
use Rattle.std.proofs.Common.{◌≡◌, ◌∙◌, ℕ, ◌+◌, ◌*◌, ◌%◌, ◌^◌, ◌<◌, ◌≤◌, List, [], ◌∷◌, length, sym, ap, refl, arith, ℤ, pos, negsuc, lit<}
use Rattle.std.specs.Prelude.{◌+ℤ◌, ◌-ℤ◌, codes, int_rem}
use Rattle.std.specs.List.{All}
use Rattle.std.proofs.Math.Nat.{one-le-pow, pow-le-pow_right}
use Rattle.std.proofs.lemmas.Int.{ints}
use Rattle.std.proofs.lemmas.List.{length-map}
use Rattle.std.proofs.lemmas.List.Elements.{All-cons, All-map, All-nil}
use Rattle.sg_model.specs.Games.{Attacker, Payoff, payoff_of}
use Rattle.sg_model.specs.Limits.{AreTypes, IsGame, IsPayoff, IsSecurityType}
use Rattle.sg_model.specs.Origami.{IsScaled, gap}
use Rattle.sg_model.specs.Sums.{numbers_from}
use Rattle.sg_model.proofs.Numbers.{All-numbers_from, All-numbers_from-at}
use Rattle.sg_gen.specs.Draws.{in_turn, word_of_seed}
use Rattle.sg_gen.specs.Generated.{free_game, free_row, lone_attacker, numbered, numbered_names}
use Rattle.sg_gen.proofs.Spelled.{are-names, map-count}

-- the one type of a game in security form
pub lone-type : (targets : ℕ) (rows : List (List ℤ)) → length rows ≡ targets → All (λ row. IsPayoff (payoff_of row)) rows → IsSecurityType targets (lone_attacker rows)
lone-type targets rows count pays = record {
  prior = record { at_least = omega (arith, ints); at_most = omega (arith, ints) };
  one_each = length-map rows payoff_of ∙ count;
  pays = All-map IsPayoff payoff_of rows pays;
  no_actions = refl;
  no_leader = refl;
  no_follower = refl;
}

pub lone-types : (rows : List (List ℤ)) → AreTypes (lone_attacker rows ∷ [])
lone-types rows = record { count = record { at_least = omega arith; at_most = omega arith }; names = are-names 97 refl 1 1 (omega arith) }

-- a property of each of the rows in turn
pub each-row : (P : List ℤ → Type 0) (f : ℕ → ℕ → List ℤ) (each n seed k : ℕ) → ((k : ℕ) → P (f seed k)) → All P (in_turn f each n seed k)
each-row P f each n seed k h = All-map P (λ (i : ℕ). f seed (k + i * each)) (numbers_from 0 n) (All-numbers_from (λ (i : ℕ). P (f seed (k + i * each))) 0 n (λ i low high. h (k + i * each)))

abbrev IsDivisor : ℕ → Type 0
IsDivisor y = int_rem (pos (2 ^ 32)) (pos (2 ^ (10 + y))) ≡ pos 0

divides : (y : ℕ) → y < 11 → IsDivisor y
divides y lt = All-numbers_from-at IsDivisor 0 11 all y (omega arith) lt
  where
    all : All IsDivisor (numbers_from 0 11)
    all = All-cons IsDivisor 0 (numbers_from 1 10) refl (All-cons IsDivisor 1 (numbers_from 2 9) refl (All-cons IsDivisor 2 (numbers_from 3 8) refl (All-cons IsDivisor 3 (numbers_from 4 7) refl
        (All-cons IsDivisor 4 (numbers_from 5 6) refl (All-cons IsDivisor 5 (numbers_from 6 5) refl (All-cons IsDivisor 6 (numbers_from 7 4) refl (All-cons IsDivisor 7 (numbers_from 8 3) refl
        (All-cons IsDivisor 8 (numbers_from 9 2) refl (All-cons IsDivisor 9 (numbers_from 10 1) refl (All-cons IsDivisor 10 (numbers_from 11 0) refl (All-nil IsDivisor)))))))))))

-- the four words of a target
module _ (w x y z : ℕ) where
  abbrev drawn_payoff : Payoff
  drawn_payoff = record { dc = pos (y % 1000); du = negsuc 0 -ℤ pos (z % 1000); ac = pos 0 -ℤ pos (x % 1000); au = (pos 0 -ℤ pos (x % 1000)) +ℤ pos (2 ^ (10 + w % 11)) }

  power-low : 1 ≤ 2 ^ (10 + w % 11)
  power-low = one-le-pow (10 + w % 11) 2 (lit< tt)

  power-high : 2 ^ (10 + w % 11) ≤ 2 ^ 20
  power-high = (let le : 10 + w % 11 ≤ 20 = omega arith in pow-le-pow_right {n = 2} (lit< tt) le)

  pays : IsPayoff drawn_payoff
  pays =
      let low = power-low in let high = power-high in
      record {
        dc = record { at_least = omega (arith, ints); at_most = omega (arith, ints) };
        du = record { at_least = omega (arith, ints); at_most = omega (arith, ints) };
        ac = record { at_least = omega (arith, ints); at_most = omega (arith, ints) };
        au = record { at_least = omega (arith, ints, low, high); at_most = omega (arith, ints, low, high) };
      }

  scaled : IsScaled (pos (2 ^ 32)) drawn_payoff
  scaled =
      let low = power-low in
      let e : gap drawn_payoff ≡ pos (2 ^ (10 + w % 11)) = omega (arith, ints) in
      record {
        defender_gains = omega (arith, ints);
        attacker_loses = omega (arith, ints, low);
        divides = ap (int_rem (pos (2 ^ 32))) e ∙ divides (w % 11) (omega arith);
      }

free-pays : (seed k : ℕ) → IsPayoff (payoff_of (free_row seed k))
free-pays seed k = pays (word_of_seed seed k) (word_of_seed seed (k + 1)) (word_of_seed seed (k + 2)) (word_of_seed seed (k + 3))

free-scaled : (seed k : ℕ) → IsScaled (pos (2 ^ 32)) (payoff_of (free_row seed k))
free-scaled seed k = scaled (word_of_seed seed k) (word_of_seed seed (k + 1)) (word_of_seed seed (k + 2)) (word_of_seed seed (k + 3))

pub free-is-game : (seed targets patrols : ℕ) → 1 ≤ targets → targets ≤ 10000 → patrols ≤ 200 → IsGame (free_game seed targets patrols)
free-is-game seed targets patrols some few few_patrols =
    let rows : List (List ℤ) = in_turn free_row 4 targets seed 0 in
    let goals = map-count (numbered (codes "t")) 1 targets in
    let count : length rows ≡ length (numbered_names (codes "t") targets) = map-count (λ (i : ℕ). free_row seed (0 + i * 4)) 0 targets ∙ sym goals in
    let P = λ (x : Attacker). x.prior ≡ pos 1 in
    let Q = λ (x : Attacker). All (IsScaled (pos (2 ^ 32))) x.payoffs in
    let R = IsSecurityType (length (numbered_names (codes "t") targets)) in
    let one = lone_attacker rows in
    record {
      targets = are-names 116 refl 1 targets (omega (arith, few));
      target_count = record { at_least = omega (arith, goals, some); at_most = omega (arith, goals, few) };
      scale_range = record { at_least = omega (arith, ints); at_most = omega (arith, ints) };
      defended = record { few = few_patrols; no_schedules = refl; no_resources = refl };
      types = lone-types rows;
      each_type = All-cons R one [] (lone-type (length (numbered_names (codes "t") targets)) rows count (each-row (λ row. IsPayoff (payoff_of row)) free_row 4 targets seed 0 (free-pays seed))) (All-nil R);
      few_rows = λ none. absurd (omega (arith, ints, none));
      scaled = λ _. record {
        identical = λ none. cc;
        one_type = refl;
        prior_one = All-cons P one [] refl (All-nil P);
        targets = All-cons Q one [] (All-map (IsScaled (pos (2 ^ 32))) payoff_of rows (each-row (λ row. IsScaled (pos (2 ^ 32)) (payoff_of row)) free_row 4 targets seed 0 (free-scaled seed))) (All-nil Q);
      };
    }
