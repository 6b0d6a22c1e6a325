-- Generated games in matrix form keep every promise.
use Rattle.std.proofs.Common.{◌≡◌, ◌∙◌, ℕ, zero, suc, ◌+◌, ◌-◌, ◌*◌, ◌%◌, ◌≤◌, List, [], ◌∷◌, length, map, sym, ap, subst, refl, arith, ℤ, pos}
use Rattle.std.specs.Prelude.{◌-ℤ◌, codes, sum_by}
use Rattle.std.specs.List.{All}
use Rattle.std.proofs.Math.Nat.{suc-mul}
use Rattle.std.proofs.lemmas.Int.{ints}
use Rattle.std.proofs.lemmas.List.Elements.{All-head, All-map, All-tail}
use Rattle.std.proofs.lemmas.List.Sums.{sum_by-cons}
use Rattle.sg_model.specs.Games.{Attacker}
use Rattle.sg_model.specs.Limits.{IsGame, IsMatrixType, IsPay, IsTable}
use Rattle.sg_model.specs.Names.{AreNames}
use Rattle.sg_model.specs.Sums.{numbers_from}
use Rattle.sg_model.proofs.Numbers.{All-numbers_from}
use Rattle.sg_gen.specs.Draws.{in_turn, word_of_seed}
use Rattle.sg_gen.specs.Generated.{drawn_attacker, drawn_attackers, drawn_pay, drawn_table, matrix_game, numbered, numbered_names}
use Rattle.sg_gen.proofs.Spelled.{are-names, map-count}

pay-is : (seed k : ℕ) → IsPay (drawn_pay seed k)
pay-is seed k = of (word_of_seed seed k)
  where
    of : (w : ℕ) → IsPay (pos (w % 21) -ℤ pos 10)
    of w = record { at_least = omega (arith, ints); at_most = omega (arith, ints) }

row-long : (actions seed k : ℕ) → length (in_turn drawn_pay 1 actions seed k) ≡ actions
row-long actions seed k = map-count (λ (j : ℕ). drawn_pay seed (k + j * 1)) 0 actions

table-is : (rows actions seed k m n : ℕ) → m ≡ rows → n ≡ actions → IsTable m n (drawn_table rows actions seed k)
table-is rows actions seed k m n em en =
    let row = λ (i : ℕ). in_turn drawn_pay 1 actions seed (k + i * actions) in
    let each = λ (P : List ℤ → Type 0) (h : (k : ℕ) → P (in_turn drawn_pay 1 actions seed k)). All-map P row (numbers_from 0 rows) (All-numbers_from (λ (i : ℕ). P (row i)) 0 rows (λ i low high. h (k + i * actions))) in
    record {
      rows = map-count row 0 rows ∙ sym em;
      columns = each (λ (r : List ℤ). length r ≡ n) (λ k. row-long actions seed k ∙ sym en);
      pays = each (λ (r : List ℤ). All IsPay r) (λ k. All-map IsPay (λ (j : ℕ). drawn_pay seed (k + j * 1)) (numbers_from 0 actions) (All-numbers_from (λ (j : ℕ). IsPay (drawn_pay seed (k + j * 1))) 0 actions (λ j low high. pay-is seed (k + j * 1))));
    }

-- types by their numbers
each-type : (P : Attacker → Type 0) (rows actions types seed : ℕ) → ((l k : ℕ) → P (drawn_attacker rows actions l seed k)) → All P (drawn_attackers rows actions types seed 0)
each-type P rows actions types seed h =
    let each : ℕ = rows * actions + rows * actions in
    All-map P (λ (l : ℕ). drawn_attacker rows actions l seed (0 + l * each)) (numbers_from 0 types) (All-numbers_from (λ (l : ℕ). P (drawn_attacker rows actions l seed (0 + l * each))) 0 types (λ l low high. h l (0 + l * each)))

type-names : (rows actions seed each a n : ℕ) → map (λ (x : Attacker). x.name) (map (λ (l : ℕ). drawn_attacker rows actions l seed (0 + l * each)) (numbers_from a n)) ≡ map (numbered (codes "a")) (numbers_from (a + 1) n)
type-names rows actions seed each a zero = refl
type-names rows actions seed each a (suc n) = ap (λ (names : List (List ℕ)). numbered (codes "a") (a + 1) ∷ names) (type-names rows actions seed each (a + 1) n)

few-in-all : (f : Attacker → ℕ) (c : ℕ) (xs : List Attacker) → All (λ x. f x ≤ c) xs → sum_by f xs ≤ length xs * c
few-in-all f c [] h = omega arith
few-in-all f c (x ∷ xs) h =
    omega (arith, sum_by-cons f x xs, All-head (λ x. f x ≤ c) x xs h, few-in-all f c xs (All-tail (λ x. f x ≤ c) x xs h), suc-mul (length xs) c)

pub table-is-game : (seed rows actions types : ℕ) → 1 ≤ rows → rows ≤ 4096 → 1 ≤ actions → actions ≤ 64 → 1 ≤ types → types ≤ 8 → IsGame (matrix_game seed rows actions types)
table-is-game seed rows actions types some_rows few_rows some_actions few_actions some_types few_types =
    let each : ℕ = rows * actions + rows * actions in
    let names : List (List ℕ) = numbered_names (codes "r") rows in
    let goals : length names ≡ rows = map-count (numbered (codes "r")) 1 rows in
    let own : List (List ℕ) = numbered_names (codes "x") actions in
    let own_long : length own ≡ actions = map-count (numbered (codes "x")) 1 actions in
    let all : List Attacker = drawn_attackers rows actions types seed 0 in
    let all_long : length all ≡ types = map-count (λ (l : ℕ). drawn_attacker rows actions l seed (0 + l * each)) 0 types in
    let f = λ (x : Attacker). length x.actions - 1 in
    let sum = few-in-all f 63 all (each-type (λ (x : Attacker). f x ≤ 63) rows actions types seed (λ l k. omega (arith, own_long, few_actions))) in
    record {
      rows = are-names 114 refl 1 rows (omega (arith, few_rows));
      row_count = record { at_least = omega (arith, goals, some_rows); at_most = omega (arith, goals, few_rows) };
      no_scale = refl;
      no_patrols = refl;
      no_schedules = refl;
      no_resources = refl;
      types = record {
        count = record { at_least = omega (arith, all_long, some_types); at_most = omega (arith, all_long, few_types) };
        names = subst AreNames (sym (type-names rows actions seed each 0 types)) (are-names 97 refl 1 types (omega (arith, few_types)));
      };
      each_type = each-type (IsMatrixType (length names)) rows actions types seed (λ l k. record {
        prior = record { at_least = omega (arith, ints); at_most = omega (arith, ints) };
        no_payoffs = refl;
        action_count = record { at_least = omega (arith, own_long, some_actions); at_most = omega (arith, own_long, few_actions) };
        action_names = are-names 120 refl 1 actions (omega (arith, few_actions));
        leader = table-is rows actions seed k (length names) (length own) goals own_long;
        follower = table-is rows actions seed (k + rows * actions) (length names) (length own) goals own_long;
      });
      few_rows = omega (arith, sum, all_long, few_types);
    }
