-- What plays cover, resource by resource.
use Rattle.std.proofs.Common.{◌≡◌, ◌∙◌, ℕ, zero, suc, ◌+◌, ◌-◌, ◌<◌, ◌≤◌, Bool, true, false, cond, ◌||◌, List, [], ◌∷◌, ◌++◌, length, map, flat_map, sym, ap, refl, arith, inl, inr, slice_index_or, length-append}
use Rattle.std.proofs.lemmas.Bool.{cases_eq}
use Rattle.std.proofs.lemmas.Grind.{flat_map-append}
use Rattle.std.proofs.lemmas.List.{append-nil, get_or_append_left, get_or-append-add, map-append}
use Rattle.sg_model.specs.Games.{Game, is_matrix, resource_count}
use Rattle.sg_model.specs.Sums.{nth, numbers_from}
use Rattle.sg_model.specs.Plays.{covers, covers_from}
use Rattle.sg_model.specs.PlayLists.{choices_of, joint_plays, legal_plays}
use Rattle.sg_programs.proofs.Heights.{numbers-split}
use Rattle.sg_dobss.specs.Covering.{AreCovered, holds_target}

-- which plays of n resources, from resource r on, cover target t
abbrev pub covered_from : Game → ℕ → ℕ → ℕ → List Bool
covered_from g t r n = map (λ play. covers_from g r play t) (joint_plays g r n)

-- one choice in front of each
one_choice : (g : Game) (t r c : ℕ) (rest : List (List ℕ)) → map (λ b. holds_target g r t c || b) (map (λ play. covers_from g (r + 1) play t) rest) ≡ map (λ play. covers_from g r play t) (map (λ cs. c ∷ cs) rest)
one_choice g t r c [] = refl
one_choice g t r c (cs ∷ rest) = ap (λ xs. covers_from g r (c ∷ cs) t ∷ xs) (one_choice g t r c rest)

all_choices : (g : Game) (t r : ℕ) (rest : List (List ℕ)) (cs : List ℕ)
    → flat_map (λ c. map (λ b. holds_target g r t c || b) (map (λ play. covers_from g (r + 1) play t) rest)) cs ≡ map (λ play. covers_from g r play t) (flat_map (λ c. map (λ x. c ∷ x) rest) cs)
all_choices g t r rest [] = refl
all_choices g t r rest (c ∷ cs) =
    let f : ℕ → List (List ℕ) = λ c. map (λ x. c ∷ x) rest in
    ap (λ xs. xs ++ flat_map (λ c. map (λ b. holds_target g r t c || b) (map (λ play. covers_from g (r + 1) play t) rest)) cs) (one_choice g t r c rest)
    ∙ ap (λ xs. map (λ play. covers_from g r play t) (f c) ++ xs) (all_choices g t r rest cs)
    ∙ sym (map-append (λ play. covers_from g r play t) (f c) (flat_map f cs))

-- one more resource in front
pub covered_from-next : (g : Game) (t r n : ℕ) → flat_map (λ c. map (λ b. holds_target g r t c || b) (covered_from g t (r + 1) n)) (choices_of g r) ≡ covered_from g t r (suc n)
covered_from-next g t r n = all_choices g t r (joint_plays g (r + 1) n) (choices_of g r)

-- the same, by the number of resources that are done
pub covered-more : (g : Game) (t m k : ℕ) (all next : List Bool) → k < m → all ≡ covered_from g t (m + 1 - k) k
    → next ≡ flat_map (λ c. map (λ b. holds_target g (m - k) t c || b) all) (choices_of g (m - k)) → next ≡ covered_from g t (m + 1 - (k + 1)) (k + 1)
covered-more g t m k all next lt e h =
    let r : ℕ = m - k in
    let before : m + 1 - k ≡ r + 1 = omega arith in
    let after : r ≡ m + 1 - (k + 1) = omega arith in
    let more : suc k ≡ k + 1 = omega arith in
    h
    ∙ ap (λ (xs : List Bool). flat_map (λ c. map (λ b. holds_target g r t c || b) xs) (choices_of g r)) (e ∙ ap (λ (s : ℕ). covered_from g t s k) before)
    ∙ covered_from-next g t r k
    ∙ ap (λ (s : ℕ). covered_from g t s (suc k)) after
    ∙ ap (λ (n : ℕ). covered_from g t (m + 1 - (k + 1)) n) more

pub covered-all : (g : Game) (t : ℕ) (all : List Bool) → is_matrix g ≡ false → all ≡ covered_from g t (resource_count g + 1 - resource_count g) (resource_count g)
    → all ≡ map (λ play. covers g play t) (legal_plays g)
covered-all g t all security e =
    let one : resource_count g + 1 - resource_count g ≡ 1 = omega arith in
    e ∙ ap (λ (s : ℕ). covered_from g t s (resource_count g)) one ∙ rw security refl

-- one choice more
pub choices-more : {X : Type 0} (f : ℕ → List X) (a n : ℕ) → flat_map f (numbers_from a (n + 1)) ≡ flat_map f (numbers_from a n) ++ f (a + n)
choices-more f a n =
    ap (flat_map f) (numbers-split a n 1) ∙ flat_map-append f (numbers_from a n) ((a + n) ∷ []) ∙ ap (λ xs. flat_map f (numbers_from a n) ++ xs) (append-nil (f (a + n)))

-- ---- the targets in turn

-- the targets up to n
pub record AreCoveredTo (g : Game) (n : ℕ) (all : List (List Bool)) : Type 0 where
  pub long : length all ≡ n
  pub each : (i : ℕ) → i < n → slice_index_or all i [] ≡ map (λ play. covers g play (i + 1)) (legal_plays g)

pub covered-push : (g : Game) (n : ℕ) (all : List (List Bool)) (next : List Bool) → AreCoveredTo g n all → next ≡ map (λ play. covers g play (n + 1)) (legal_plays g) → AreCoveredTo g (n + 1) (all ++ next ∷ [])
covered-push g n all next h e = record {
  long = omega (arith, length-append all (next ∷ []), h.long);
  each = λ i lt. elim (cases_eq i n) [
    | inl same ↦ (
        let at : i ≡ length all + 0 = omega (arith, same, h.long) in
        ap (λ (j : ℕ). slice_index_or (all ++ next ∷ []) j []) at ∙ get_or-append-add all (next ∷ []) 0 [] ∙ e ∙ ap (λ (j : ℕ). map (λ play. covers g play (j + 1)) (legal_plays g)) (sym same))
    | inr other ↦ get_or_append_left all (next ∷ []) [] i (omega (arith, lt, h.long)) ∙ h.each i (omega (arith, lt))
  ];
}

-- a target below a count that is 0 in matrix form
pub security-below : (b : Bool) (i n : ℕ) → i < cond b 0 n → b ≡ false
security-below true i n lt = absurd (omega arith)
security-below false i n lt = refl

pub count-below : (b : Bool) (i n : ℕ) → i < cond b 0 n → i < n
count-below true i n lt = absurd (omega arith)
count-below false i n lt = lt

pub are-covered : (g : Game) (n : ℕ) (all : List (List Bool)) → n ≡ cond (is_matrix g) 0 (length g.goals) → AreCoveredTo g n all → AreCovered g all
are-covered g n all e h = record {
  each = λ security t low high. by t security low high;
  long = λ security. h.long ∙ count security;
}
  where
    count : is_matrix g ≡ false → n ≡ length g.goals
    count security = e ∙ ap (λ (b : Bool). cond b 0 (length g.goals)) security

    by : (t : ℕ) → is_matrix g ≡ false → 1 ≤ t → t ≤ length g.goals → nth all t [] ≡ map (λ play. covers g play t) (legal_plays g)
    by zero security low high = absurd (omega arith)
    by (suc k) security low high = let next : k + 1 ≡ suc k = omega arith in h.each k (omega (arith, high, count security)) ∙ ap (λ (j : ℕ). map (λ play. covers g play j) (legal_plays g)) next

-- one choice more in front of all plays behind it
pub choices-next : (g : Game) (t r n : ℕ) (rest all next : List Bool) (h : Bool) → h ≡ holds_target g r t n → all ≡ flat_map (λ c. map (λ b. holds_target g r t c || b) rest) (numbers_from 0 n)
    → next ≡ all ++ map (λ b. h || b) rest → next ≡ flat_map (λ c. map (λ b. holds_target g r t c || b) rest) (numbers_from 0 (n + 1))
choices-next g t r n rest all next h is e f =
    let all_of : ℕ → List Bool = λ c. map (λ b. holds_target g r t c || b) rest in
    let same : 0 + n ≡ n = omega arith in
    f
    ∙ ap (λ xs. xs ++ map (λ b. h || b) rest) e
    ∙ ap (λ z. flat_map all_of (numbers_from 0 n) ++ map (λ b. z || b) rest) is
    ∙ ap (λ k. flat_map all_of (numbers_from 0 n) ++ all_of k) (sym same)
    ∙ sym (choices-more all_of 0 n)
