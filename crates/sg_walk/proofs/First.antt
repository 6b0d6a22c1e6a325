-- The first play above mu among the partial plays is the first among the legal ones.
use Rattle.std.proofs.Common.{◌≡◌, ◌∙◌, ◌⊎◌, ℕ, zero, suc, ◌+◌, Bool, true, false, cond, List, [], ◌∷◌, ◌++◌, length, map, ℤ, ◌≤ℤ◌, ap, sym, refl, subst, arith, eqb, Option, Some, None, inl, inr}
use Rattle.std.specs.Prelude.{int_lt, MatchOption}
use Rattle.std.specs.List.{All, AllPairs, Contains, find, flat_map}
use Rattle.std.proofs.lemmas.Int.{ints}
use Rattle.std.proofs.lemmas.Bool.Decides.{nat_tests}
use Rattle.std.proofs.lemmas.List.Elements.{All-nil, All-cons, All-contains, Contains-append_right}
use Rattle.std.proofs.lemmas.List.{append-nil, append_assoc, length-append}
use Rattle.sg_model.specs.Games.{Game, is_matrix, resource_count}
use Rattle.sg_model.specs.Orders.{IsBefore}
use Rattle.sg_model.specs.PlayLists.{choices_of, joint_plays, legal_plays}
use Rattle.sg_model.specs.Plays.{IsLegal}
use Rattle.sg_model.proofs.LegalPlays.{legal_plays-complete, legal_plays-legal, legal_plays_rise}
use Rattle.sg_walk.specs.Laws.{FirstPlayIsFirst, IsFirstAbove}
use Rattle.sg_walk.specs.Partials.{extensions, first_play, is_play_above, partials}
use Rattle.sg_walk.specs.Weights.{covered_sum}
use Rattle.sg_walk.proofs.Looked.{above-short, find-none, find-some, int_holds, int_test}

-- ---- lists of lists

find-flat : {X : Type 0} (s t : X → Bool) (f h : ℕ → List X) → ((c : ℕ) → find s (f c) ≡ find t (h c)) → (xs : List ℕ) → find s (flat_map f xs) ≡ find t (flat_map h xs)
find-flat s t f h each [] = refl
find-flat {X} s t f h each (c ∷ cs) = by (find s (f c)) refl (find-flat s t f h each cs)
  where
    by : (o : Option X) → find s (f c) ≡ o → find s (flat_map f cs) ≡ find t (flat_map h cs) → find s (f c ++ flat_map f cs) ≡ find t (h c ++ flat_map h cs)
    by None e rest = find-none s s (f c) (flat_map f cs) e ∙ rest ∙ sym (find-none t t (h c) (flat_map h cs) (sym (each c) ∙ e))
    by (Some x) e rest = find-some s s (f c) (flat_map f cs) x e ∙ sym (find-some t t (h c) (flat_map h cs) x (sym (each c) ∙ e))

map-append : {X Y : Type 0} (f : X → Y) (xs ys : List X) → map f (xs ++ ys) ≡ map f xs ++ map f ys
map-append f [] ys = refl
map-append f (x ∷ xs) ys = ap (λ zs. f x ∷ zs) (map-append f xs ys)

map-flat : {X Y : Type 0} (f : X → Y) (h : ℕ → List X) (xs : List ℕ) → map f (flat_map h xs) ≡ flat_map (λ c. map f (h c)) xs
map-flat f h [] = refl
map-flat f h (c ∷ cs) = map-append f (h c) (flat_map h cs) ∙ ap (λ zs. map f (h c) ++ zs) (map-flat f h cs)

map-begun : (p : List ℕ) (c : ℕ) (qs : List (List ℕ)) → map (λ q. p ++ q) (map (λ q. c ∷ q) qs) ≡ map (λ q. (p ++ c ∷ []) ++ q) qs
map-begun p c [] = refl
map-begun p c (q ∷ qs) = (λ i. sym (append_assoc p (c ∷ []) q) i ∷ map-begun p c qs i)

map-same : (qs : List (List ℕ)) → map (λ q. [] ++ q) qs ≡ qs
map-same [] = refl
map-same (q ∷ qs) = ap (λ zs. q ∷ zs) (map-same qs)

-- ---- full plays among the partial ones

module _ (g : Game) (ws : List ℤ) (mu : ℤ) where
  abbrev above : List ℕ → Bool
  above p = int_lt mu (covered_sum g ws p)

  find-extensions : (n : ℕ) (p : List ℕ) → length p + n ≡ resource_count g → find (is_play_above g ws mu) (extensions g n p) ≡ find above (map (λ q. p ++ q) (joint_plays g (length p + 1) n))
  find-extensions zero p e =
      let full : eqb (length p) (resource_count g) ≡ true = grind (arith, nat_tests) in
      rw full (ap (λ (q : List ℕ). cond (above q) (Some q) None) (sym (append-nil p)))
  find-extensions (suc n) p e =
      let short = above-short g ws mu p (omega arith) in
      let r : ℕ = length p + 1 in
      let each : (c : ℕ) → find (is_play_above g ws mu) (extensions g n (p ++ c ∷ [])) ≡ find above (map (λ q. p ++ q) (map (λ q. c ∷ q) (joint_plays g (r + 1) n))) =
      λ c.
      let long : length (p ++ c ∷ []) ≡ r = length-append p (c ∷ []) in
      find-extensions n (p ++ c ∷ []) (omega (arith, long)) ∙ ap (λ (k : ℕ). find above (map (λ q. (p ++ c ∷ []) ++ q) (joint_plays g (k + 1) n))) long ∙ ap (find above) (sym (map-begun p c (joint_plays g (r + 1) n))) in
      rw short (
      find-flat (is_play_above g ws mu) above (λ c. extensions g n (p ++ c ∷ [])) (λ c. map (λ q. p ++ q) (map (λ q. c ∷ q) (joint_plays g (r + 1) n))) each (choices_of g r)
      ∙ ap (find above) (sym (map-flat (λ q. p ++ q) (λ c. map (λ q. c ∷ q) (joint_plays g (r + 1) n)) (choices_of g r))))

  pub first-is : is_matrix g ≡ false → find (is_play_above g ws mu) (partials g) ≡ first_play g ws mu
  first-is security =
      find-extensions (resource_count g) [] (omega arith) ∙ ap (find above) (map-same (joint_plays g 1 (resource_count g)) ∙ listed)
    where
      listed : joint_plays g 1 (resource_count g) ≡ legal_plays g
      listed = rw security refl

-- ---- what a search finds

find-fails : {X : Type 0} (test : X → Bool) (xs : List X) → find test xs ≡ None → All (λ x. test x ≡ false) xs
find-fails test [] e = All-nil (λ x. test x ≡ false)
find-fails test (x ∷ xs) e = by (test x) refl e (find-fails test xs)
  where
    by : (b : Bool) → test x ≡ b → cond b (Some x) (find test xs) ≡ None → (find test xs ≡ None → All (λ x. test x ≡ false) xs) → All (λ x. test x ≡ false) (x ∷ xs)
    by true is h later = absurd (cc)
    by false is h later = All-cons (λ x. test x ≡ false) x xs is (later h)

abbrev Found : {X : Type 0} (R : X → X → Type 0) (test : X → Bool) (xs : List X) (p : X) → Type 0
Found R test xs p = (test p ≡ true) × Contains xs p × All (λ q. test q ≡ true → (q ≡ p) ⊎ R p q) xs

find-finds : {X : Type 0} (R : X → X → Type 0) (test : X → Bool) (xs : List X) (p : X) → AllPairs R xs → find test xs ≡ Some p → Found R test xs p
find-finds R test [] p pairs e = absurd (cc)
find-finds R test (x ∷ xs) p pairs e = by (test x) refl e (find-finds R test xs p (λ i j d lt within. pairs (suc i) (suc j) d (omega arith) (omega arith)))
  where
    by : (b : Bool) → test x ≡ b → cond b (Some x) (find test xs) ≡ Some p → (find test xs ≡ Some p → Found R test xs p) → Found R test (x ∷ xs) p
    by true is h later =
        let same : x ≡ p = cc in
        subst (Found R test (x ∷ xs)) same (
          is,
          (0, omega arith, refl),
          All-cons (λ q. test q ≡ true → (q ≡ x) ⊎ R x q) x xs (λ t. inl refl) (λ i d lt t. inr (pairs 0 (suc i) d (omega arith) (omega arith))),
        )
    by false is h later =
        let r = later h in (
          r.0,
          Contains-append_right (x ∷ []) xs p r.1,
          All-cons (λ q. test q ≡ true → (q ≡ p) ⊎ R p q) x xs (λ t. absurd (cc)) r.2,
        )

not_above : (mu x : ℤ) → int_lt mu x ≡ false → x ≤ℤ mu
not_above mu x e = grind (arith, ints)

pub first_play_is_first : FirstPlayIsFirst
first_play_is_first g ws mu = by (first_play g ws mu) refl
  where
    by : (o : Option (List ℕ)) → first_play g ws mu ≡ o → MatchOption o ((q : List ℕ) → IsLegal g q → covered_sum g ws q ≤ℤ mu) (IsFirstAbove g ws mu)
    by None e = λ q legal.
        not_above mu (covered_sum g ws q) (All-contains (λ p. int_lt mu (covered_sum g ws p) ≡ false) (legal_plays g) q (find-fails (λ p. int_lt mu (covered_sum g ws p)) (legal_plays g) e) (legal_plays-complete g q legal))
    by (Some p) e =
        let found = find-finds IsBefore (λ p. int_lt mu (covered_sum g ws p)) (legal_plays g) p (legal_plays_rise g) e in
        record {
          legal = All-contains (IsLegal g) (legal_plays g) p (legal_plays-legal g) found.1;
          above = int_test mu (covered_sum g ws p) found.0;
          first = λ q legal more.
              All-contains (λ x. int_lt mu (covered_sum g ws x) ≡ true → (x ≡ p) ⊎ IsBefore p x) (legal_plays g) q found.2 (legal_plays-complete g q legal) (int_holds mu (covered_sum g ws q) more);
        }
