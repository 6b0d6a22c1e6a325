-- Generated games of blocks keep every promise.
use Rattle.std.proofs.Common.{◌≡◌, ◌≢◌, ◌∙◌, ℕ, zero, suc, ◌+◌, ◌-◌, ◌*◌, ◌%◌, ◌<◌, ◌≤◌, List, [], ◌∷◌, flat_map, get_or, length, map, sym, ap, subst, refl, arith, ℤ, pos, true}
use Rattle.std.specs.Prelude.{◌-ℤ◌, codes}
use Rattle.std.specs.List.{All, AllPairs}
use Rattle.std.proofs.Math.Nat.{mod-lt, mul-le-mul_right, suc-mul}
use Rattle.std.proofs.lemmas.Int.{ints}
use Rattle.std.proofs.lemmas.List.Elements.{All-append, All-cons, All-map, All-nil}
use Rattle.sg_model.specs.Games.{Named, payoff_of}
use Rattle.sg_model.specs.Limits.{AreLists, AreMembers, IsCount, IsGame, IsPayoff, IsSecurityType}
use Rattle.sg_model.specs.Names.{AreNames, is_name_byte}
use Rattle.sg_model.specs.Sums.{numbers, numbers_from}
use Rattle.sg_model.proofs.Lists.{All-flat_map}
use Rattle.sg_model.proofs.Numbers.{All-numbers_from, length-numbers_from}
use Rattle.sg_gen.specs.Draws.{in_turn, word_of_seed}
use Rattle.sg_gen.specs.Generated.{block_lists, block_row, blocks_game, blocks_lists, lone_attacker, named_lists, numbered, numbered_names, shares_of}
use Rattle.sg_gen.proofs.Counted.{blocks-count, few-lists, small-product, some-lists}
use Rattle.sg_gen.proofs.FreeGames.{each-row, lone-type, lone-types}
use Rattle.sg_gen.proofs.Lists.{named-count}
use Rattle.sg_gen.proofs.Spelled.{are-names, map-count, names-listed}

block-pays : (span seed k : ℕ) → 1 ≤ span → span ≤ 1000 → IsPayoff (payoff_of (block_row span seed k))
block-pays span seed k some few = of (word_of_seed seed k % span) (mod-lt (word_of_seed seed k) some)
  where
    of : (m : ℕ) → m < span → IsPayoff (payoff_of (pos 0 ∷ (pos 0 -ℤ pos (1 + m)) ∷ pos 0 ∷ pos (1 + m) ∷ []))
    of m lt = record {
      dc = record { at_least = omega (arith, ints); at_most = omega (arith, ints) };
      du = record { at_least = omega (arith, ints, lt, few); at_most = omega (arith, ints, lt, few) };
      ac = record { at_least = omega (arith, ints); at_most = omega (arith, ints) };
      au = record { at_least = omega (arith, ints, lt, few); at_most = omega (arith, ints, lt, few) };
    }

-- ---- lists of members

listed-members : (P : List ℕ → Type 0) (front : List ℕ) (k : ℕ) (lists : List (List ℕ)) → All P lists → All (λ (x : Named). P x.members) (named_lists front k lists)
listed-members P front k [] all = All-nil (λ (x : Named). P x.members)
listed-members P front k (ms ∷ rest) all =
    All-cons (λ (x : Named). P x.members) (record { name = numbered front k; members = ms }) (named_lists front (k + 1) rest) (all 0 ms (omega arith)) (listed-members P front (k + 1) rest (λ i d lt. all (suc i) d (omega (arith, lt))))

lists-of : (c count limit members_limit : ℕ) (letter : is_name_byte c ≡ true) (lists : List (List ℕ)) → length lists ≤ limit → limit ≤ 1000 → All (AreMembers count members_limit) lists → AreLists count limit members_limit (named_lists (c ∷ []) 1 lists)
lists-of c count limit members_limit letter lists few small all = record {
  few = omega (arith, named-count (c ∷ []) 1 lists, few);
  names = subst AreNames (sym (names-listed (c ∷ []) 1 lists)) (are-names c letter 1 (length lists) (omega (arith, few, small)));
  members = listed-members (AreMembers count members_limit) (c ∷ []) 1 lists all;
}

one-member : (count a : ℕ) → 1 ≤ a → a ≤ count → AreMembers count 200 (a ∷ [])
one-member count a low high = record {
  size = record { at_least = omega arith; at_most = omega arith };
  known = All-cons (IsCount 1 count) a [] (record { at_least = low; at_most = high }) (All-nil (IsCount 1 count));
  distinct = λ i j d lt in_list. absurd (omega (arith, lt, in_list));
}

two-members : (count a b : ℕ) → 1 ≤ a → a < b → b ≤ count → AreMembers count 200 (a ∷ b ∷ [])
two-members count a b low lt high =
    let K = IsCount 1 count in
    record {
      size = record { at_least = omega arith; at_most = omega arith };
      known = All-cons K a (b ∷ []) (record { at_least = low; at_most = omega (arith, lt, high) }) (All-cons K b [] (record { at_least = omega (arith, low, lt); at_most = high }) (All-nil K));
      distinct = apart;
    }
  where
    apart : AllPairs (λ (x y : ℕ). x ≢ y) (a ∷ b ∷ [])
    apart zero zero d less in_list = absurd (omega (arith, less))
    apart zero (suc zero) d less in_list = λ e. omega (arith, lt, e)
    apart zero (suc (suc j)) d less in_list = absurd (omega (arith, in_list))
    apart (suc i) zero d less in_list = absurd (omega (arith, less))
    apart (suc i) (suc j) d less in_list = absurd (omega (arith, less, in_list))

in-row : (count a n : ℕ) → 1 ≤ a → 1 ≤ n → n ≤ 500 → a + n ≤ count + 1 → AreMembers count 500 (numbers_from a n)
in-row count a n low some few high =
    let long = length-numbers_from a n in
    record {
      size = record { at_least = omega (arith, long, some); at_most = omega (arith, long, few) };
      known = All-numbers_from (IsCount 1 count) a n (λ t least most. record { at_least = omega (arith, low, least); at_most = omega (arith, most, high) });
      distinct = λ i j d lt in_list. (λ e. let x = number-at a n i d (omega (arith, lt, in_list, long)) in let y = number-at a n j d (omega (arith, in_list, long)) in omega (arith, lt, e, x, y));
    }
  where
    number-at : (a n i d : ℕ) → i < n → get_or (numbers_from a n) i d ≡ a + i
    number-at a zero i d lt = absurd (omega arith)
    number-at a (suc n) zero d lt = omega arith
    number-at a (suc n) (suc i) d lt = omega (arith, number-at (a + 1) n i d (omega (arith, lt)))

-- ---- blocks

module _ (blocks width : ℕ) (some : 1 ≤ blocks) (few : blocks ≤ 8) (wide : 2 ≤ width) (narrow : width ≤ 10) where
  abbrev targets : ℕ
  targets = blocks * width

  abbrev IsBlockList : List ℕ → Type 0
  IsBlockList = AreMembers targets 200

  -- a target of block k
  inside : (k a : ℕ) → k < blocks → a ≤ width → k * width + a ≤ targets
  inside k a lt le =
      let p = mul-le-mul_right {m = k + 1} {n = blocks} width (omega (arith, lt)) in
      let e : (k + 1) * width ≡ k * width + width = (let s : k + 1 ≡ suc k = omega arith in ap (λ (n : ℕ). n * width) s ∙ suc-mul k width) in
      omega (arith, p, e, le)

  block-members : (k : ℕ) → k < blocks → All IsBlockList (block_lists width (k * width))
  block-members k lt =
      let before : ℕ = k * width in
      let singles = λ (a : ℕ). (before + a) ∷ [] in
      let with_a = λ (a : ℕ). map (λ (b : ℕ). (before + a) ∷ (before + b) ∷ []) (numbers_from (a + 1) (width - a)) in
      All-append IsBlockList (map singles (numbers width)) (flat_map with_a (numbers width))
      (All-map IsBlockList singles (numbers width) (All-numbers_from (λ (a : ℕ). IsBlockList (singles a)) 1 width (λ a low high. one-member targets (before + a) (omega (arith, low)) (inside k a lt (omega (arith, high))))))
      (All-flat_map IsBlockList with_a (numbers width)
      (All-numbers_from (λ (a : ℕ). All IsBlockList (with_a a)) 1 width
      (λ a low high. All-map IsBlockList (λ (b : ℕ). (before + a) ∷ (before + b) ∷ []) (numbers_from (a + 1) (width - a))
      (All-numbers_from (λ (b : ℕ). IsBlockList ((before + a) ∷ (before + b) ∷ [])) (a + 1) (width - a)
      (λ b least most. two-members targets (before + a) (before + b) (omega (arith, low)) (omega (arith, least)) (inside k b lt (omega (arith, high, most))))))))

  schedules-are : All IsBlockList (blocks_lists blocks width)
  schedules-are =
      All-flat_map IsBlockList (λ (k : ℕ). block_lists width (k * width)) (numbers_from 0 blocks) (All-numbers_from (λ (k : ℕ). All IsBlockList (block_lists width (k * width))) 0 blocks (λ k low high. block-members k (omega (arith, high))))

  abbrev share : ℕ
  share = length (block_lists width 0)

  schedule-count : length (blocks_lists blocks width) ≡ blocks * share
  schedule-count = blocks-count width 0 blocks

  few-schedules : blocks * share ≤ 440
  few-schedules =
      let p = mul-le-mul_right {m = blocks} {n = 8} share few in
      let q = few-lists width wide narrow in
      omega (arith, p, q)

  resources-are : All (AreMembers (blocks * share) 500) (shares_of blocks share)
  resources-are =
      let row = λ (k : ℕ). numbers_from (k * share + 1) share in
      All-map (AreMembers (blocks * share) 500) row (numbers_from 0 blocks)
      (All-numbers_from (λ (k : ℕ). AreMembers (blocks * share) 500 (row k)) 0 blocks
      (λ k low high.
      let p = mul-le-mul_right {m = k + 1} {n = blocks} share (omega (arith, high)) in
      let e : (k + 1) * share ≡ k * share + share = (let s : k + 1 ≡ suc k = omega arith in ap (λ (n : ℕ). n * share) s ∙ suc-mul k share) in
      in-row (blocks * share) (k * share + 1) share (omega arith) (some-lists width wide narrow) (omega (arith, few-lists width wide narrow)) (omega (arith, p, e))))

  resource-count : length (named_lists (codes "r") 1 (shares_of blocks share)) ≡ blocks
  resource-count = named-count (codes "r") 1 (shares_of blocks share) ∙ map-count (λ (k : ℕ). numbers_from (k * share + 1) share) 0 blocks

  some-targets : 1 ≤ targets
  some-targets =
      let p = mul-le-mul_right {m = 1} {n = blocks} width some in
      omega (arith, p, wide)

  pub blocks-is-game : (seed span : ℕ) → 1 ≤ span → span ≤ 1000 → IsGame (blocks_game seed blocks width span)
  blocks-is-game seed span some_span few_span =
      let rows : List (List ℤ) = in_turn (block_row span) 1 targets seed 0 in
      let names : List (List ℕ) = numbered_names (codes "t") targets in
      let goals : length names ≡ targets = map-count (numbered (codes "t")) 1 targets in
      let count : length rows ≡ length names = map-count (λ (i : ℕ). block_row span seed (0 + i * 1)) 0 targets ∙ sym goals in
      let room = small-product blocks width few narrow in
      let schedules : List Named = named_lists (codes "s") 1 (blocks_lists blocks width) in
      let schedules_long : length schedules ≡ blocks * share = named-count (codes "s") 1 (blocks_lists blocks width) ∙ schedule-count in
      let R = IsSecurityType (length names) in
      record {
        targets = are-names 116 refl 1 targets (omega (arith, room));
        target_count = record { at_least = omega (arith, goals, some-targets); at_most = omega (arith, goals, room) };
        scale_range = record { at_least = omega (arith, ints); at_most = omega (arith, ints) };
        defended = record {
          schedules = subst (λ (n : ℕ). AreLists n 500 200 schedules) (sym goals) (lists-of 115 targets 500 200 refl (blocks_lists blocks width) (omega (arith, schedule-count, few-schedules)) (omega arith) schedules-are);
          resources = subst (λ (n : ℕ). AreLists n 32 500 (named_lists (codes "r") 1 (shares_of blocks share))) (sym schedules_long)
              (lists-of 114 (blocks * share) 32 500 refl (shares_of blocks share) (omega (arith, map-count (λ (k : ℕ). numbers_from (k * share + 1) share) 0 blocks, few)) (omega arith) resources-are);
        };
        types = lone-types rows;
        each_type = All-cons R (lone_attacker rows) [] (lone-type (length names) rows count (each-row (λ row. IsPayoff (payoff_of row)) (block_row span) 1 targets seed 0 (λ k. block-pays span seed k some_span few_span))) (All-nil R);
        few_rows = λ _. omega (arith, resource-count, goals, room, few);
        scaled = λ has. absurd (omega (arith, ints, has));
      }
