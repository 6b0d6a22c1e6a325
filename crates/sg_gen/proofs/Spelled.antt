-- Names with numbers are names, no two of them the same.
use Rattle.std.proofs.Common.{◌≡◌, ◌≢◌, ◌∙◌, ℕ, zero, suc, ◌+◌, ◌%◌, ◌<◌, ◌≤◌, ◌^◌, Bool, true, false, List, [], ◌∷◌, ◌++◌, length, map, get_or, sym, ap, refl, arith}
use Rattle.std.specs.Prelude.{◌&&◌, decimal, nat_le}
use Rattle.std.specs.List.{list_all}
use Rattle.std.proofs.lemmas.Bool.Decides.{nat_tests}
use Rattle.std.proofs.lemmas.Fmt.{decimal_by_steps, decimal_injective, length-decimal-le}
use Rattle.std.proofs.lemmas.List.{length-map}
use Rattle.std.proofs.lemmas.List.Elements.{All-map}
use Rattle.sg_model.specs.Games.{Named}
use Rattle.sg_model.specs.Names.{AreNames, is_name, is_name_byte}
use Rattle.sg_model.specs.Sums.{numbers_from}
use Rattle.sg_model.proofs.Numbers.{All-numbers_from, length-numbers_from}
use Rattle.sg_gen.specs.Generated.{named_lists, numbered}

pub item-at : {X : Type 0} (f : ℕ → X) (a n i : ℕ) (d : X) → i < n → get_or (map f (numbers_from a n)) i d ≡ f (a + i)
item-at f a zero i d lt = absurd (omega arith)
item-at f a (suc n) zero d lt = let e : a ≡ a + 0 = omega arith in ap f e
item-at f a (suc n) (suc i) d lt = let e : a + 1 + i ≡ a + suc i = omega arith in item-at f (a + 1) n i d (omega (arith, lt)) ∙ ap f e

pub map-count : {X : Type 0} (f : ℕ → X) (a n : ℕ) → length (map f (numbers_from a n)) ≡ n
map-count f a n = length-map (numbers_from a n) f ∙ length-numbers_from a n

abbrev IsDigitName : ℕ → Type 0
IsDigitName d = is_name_byte (48 + d) ≡ true

digit-name : (d : ℕ) → d < 10 → IsDigitName d
digit-name d lt = grind (arith, nat_tests)

push-all : (p : ℕ → Bool) (ds : List ℕ) (d : ℕ) → list_all p ds ≡ true → p d ≡ true → list_all p (ds ++ d ∷ []) ≡ true
push-all p [] d h e = rw e refl
push-all p (x ∷ xs) d h e = by (p x) h (λ k. push-all p xs d k e)
  where
    by : (b : Bool) → (b && list_all p xs) ≡ true → (list_all p xs ≡ true → list_all p (xs ++ d ∷ []) ≡ true) → (b && list_all p (xs ++ d ∷ [])) ≡ true
    by true k rest = rest k
    by false k rest = cc

decimal-name : (n : ℕ) → n < 2 ^ 64 → list_all is_name_byte (decimal n) ≡ true
decimal-name n lt =
    decimal_by_steps (λ _ ds. list_all is_name_byte ds ≡ true) (λ m small. rw (digit-name m small) refl) (λ m ds big so_far. push-all is_name_byte ds (48 + m % 10) so_far (digit-name (m % 10) (omega arith))) n lt

module _ (c : ℕ) (letter : is_name_byte c ≡ true) where
  numbered-name : (k : ℕ) → k < 10 ^ 5 → is_name (numbered (c ∷ []) k) ≡ true
  unfolding is_name
  numbered-name k lt =
      let few : length (decimal k) ≤ 5 = length-decimal-le 5 k (omega arith) lt (omega (arith, lt)) in
      let some : nat_le 1 (suc (length (decimal k))) ≡ true = grind (arith, nat_tests) in
      let short : nat_le (suc (length (decimal k))) 64 ≡ true = grind (arith, nat_tests, few) in
      rw (some, short, letter) (decimal-name k (omega (arith, lt)))

  numbered-apart : (j k : ℕ) → j < k → k < 10 ^ 5 → numbered (c ∷ []) j ≢ numbered (c ∷ []) k
  numbered-apart j k lt small = λ e.
      let tails : decimal j ≡ decimal k = cc in
      let same = decimal_injective j k (omega (arith, lt, small)) (omega (arith, small)) tails in
      omega (arith, lt, same)

  pub are-names : (a n : ℕ) → a + n < 10 ^ 5 → AreNames (map (numbered (c ∷ [])) (numbers_from a n))
  are-names a n small = record {
    spelled = All-map (λ (name : List ℕ). is_name name ≡ true) (numbered (c ∷ [])) (numbers_from a n) (All-numbers_from (λ (k : ℕ). is_name (numbered (c ∷ []) k) ≡ true) a n (λ t low high. numbered-name t (omega (arith, high, small))));
    distinct = λ i j d lt in_list.
        let count = map-count (numbered (c ∷ [])) a n in
        let left = item-at (numbered (c ∷ [])) a n i d (omega (arith, lt, in_list, count)) in
        let right = item-at (numbered (c ∷ [])) a n j d (omega (arith, in_list, count)) in
        (λ e. numbered-apart (a + i) (a + j) (omega (arith, lt)) (omega (arith, in_list, count, small)) (sym left ∙ e ∙ right));
  }

pub names-listed : (front : List ℕ) (k : ℕ) (lists : List (List ℕ)) → map (λ (x : Named). x.name) (named_lists front k lists) ≡ map (numbered front) (numbers_from k (length lists))
names-listed front k [] = refl
names-listed front k (ms ∷ rest) = ap (λ (names : List (List ℕ)). numbered front k ∷ names) (names-listed front (k + 1) rest)
