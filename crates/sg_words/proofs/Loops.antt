-- Loops over slices: what is left is an element and what comes behind it.
use Rattle.std.proofs.Common.{◌≡◌, ◌∙◌, ℕ, suc, ◌<◌, ◌≤◌, Bool, true, false, List, [], ◌∷◌, ◌++◌, length, map, slice_index_or, Option, Some, None, refl, sym, ap, ap₂, drop, drop-cons, drop_of_length-le, append-nil, append_assoc, add-one}
use Rattle.std.specs.Prelude.{◌+◌, fold, ◌||◌, ◌&&◌, find, option_map, option_and_then, if◌then◌else◌}
use Rattle.std.specs.List.{list_any}
use Rattle.sg_words.specs.Kinds.{Kind, is_of}
use Rattle.clap.specs.Words.{App, with_rule}
use Rattle.sg_words.specs.Words.{Text}
use Rattle.sg_words.specs.Line.{option_rule}
use Rattle.sg_words.specs.declared.usage.Setting.{Setting as CodeSetting}
use Rattle.sg_words.specs.Usages.{Setting, setting_of, are_of, option_value, values_by}

module _ {X : Type 0} (xs : List X) (i : ℕ) (d : X) (lt : i < length xs) where
  pub left : drop i xs ≡ slice_index_or xs i d ∷ drop (i + 1) xs
  left = rw add-one (drop-cons xs i d lt)

  module _ {Y : Type 0} (f : X → Y) where
    pub left_map : map f (drop i xs) ≡ f (slice_index_or xs i d) ∷ map f (drop (i + 1) xs)
    left_map = ap (map f) left

    pub any_hit : (p : Y → Bool) → p (f (slice_index_or xs i d)) ≡ true → list_any p (map f (drop i xs)) ≡ true
    any_hit p e = ap (list_any p) left_map ∙ ap (λ (b : Bool). b || list_any p (map f (drop (i + 1) xs))) e

    pub any_miss : (p : Y → Bool) → p (f (slice_index_or xs i d)) ≡ false → list_any p (map f (drop i xs)) ≡ list_any p (map f (drop (i + 1) xs))
    any_miss p e = ap (list_any p) left_map ∙ ap (λ (b : Bool). b || list_any p (map f (drop (i + 1) xs))) e

    pub find_hit : (p : Y → Bool) → p (f (slice_index_or xs i d)) ≡ true → find p (map f (drop i xs)) ≡ Some (f (slice_index_or xs i d))
    find_hit p e = ap (find p) left_map ∙ ap (λ (b : Bool). if b then Some (f (slice_index_or xs i d)) else find p (map f (drop (i + 1) xs))) e

    pub find_miss : (p : Y → Bool) → p (f (slice_index_or xs i d)) ≡ false → find p (map f (drop i xs)) ≡ find p (map f (drop (i + 1) xs))
    find_miss p e = ap (find p) left_map ∙ ap (λ (b : Bool). if b then Some (f (slice_index_or xs i d)) else find p (map f (drop (i + 1) xs))) e

-- ---- kinds and texts, one for one

pub are_of-lengths : {X Y : Type 0} (f : X → Kind) (g : Y → List ℕ) (xs : List X) (ys : List Y) → (length xs ≡ length ys → ⊥) → are_of (map f xs) (map g ys) ≡ false
are_of-lengths f g [] [] other = absurd (other refl)
are_of-lengths f g [] (y ∷ ys) other = refl
are_of-lengths f g (x ∷ xs) [] other = refl
are_of-lengths f g (x ∷ xs) (y ∷ ys) other = go (is_of (f x) (g y)) (are_of-lengths f g xs ys (λ same. other (ap suc same)))
  where
    go : (b : Bool) → are_of (map f xs) (map g ys) ≡ false → (b && are_of (map f xs) (map g ys)) ≡ false
    go true later = later
    go false later = refl

-- one more pair
pub are_of_at : {X Y : Type 0} (f : X → Kind) (g : Y → List ℕ) (xs : List X) (ys : List Y) (i : ℕ) (d : X) (e : Y) (b : Bool) → i < length xs → i < length ys
    → is_of (f (slice_index_or xs i d)) (g (slice_index_or ys i e)) ≡ b
    → are_of (map f (drop i xs)) (map g (drop i ys)) ≡ (b && are_of (map f (drop (i + 1) xs)) (map g (drop (i + 1) ys)))
are_of_at f g xs ys i d e b lt below is =
    ap₂ are_of (left_map xs i d lt f) (left_map ys i e below g) ∙ ap (λ (c : Bool). c && are_of (map f (drop (i + 1) xs)) (map g (drop (i + 1) ys))) is

-- ---- values of options

-- no value, and so none of all
pub values_by_at-none : {X : Type 0} (f : X → Setting) (given : List ℕ → List (List ℕ)) (xs : List X) (i : ℕ) (d : X) → i < length xs
    → option_value (f (slice_index_or xs i d)) (given (f (slice_index_or xs i d)).name) ≡ None → values_by (map f (drop i xs)) given ≡ None
values_by_at-none f given xs i d lt none =
    ap (λ (ss : List Setting). values_by ss given) (left_map xs i d lt f)
    ∙ ap (option_and_then (λ value. option_map (λ values. value ∷ values) (values_by (map f (drop (i + 1) xs)) given))) none

-- one more value, behind the texts
pub values_by_at : {X : Type 0} (f : X → Setting) (given : List ℕ → List (List ℕ)) (xs : List X) (i : ℕ) (d : X) (texts : List (List ℕ)) (value : List ℕ) → i < length xs
    → option_value (f (slice_index_or xs i d)) (given (f (slice_index_or xs i d)).name) ≡ Some value
    → option_map (λ values. texts ++ values) (values_by (map f (drop i xs)) given) ≡ option_map (λ values. (texts ++ value ∷ []) ++ values) (values_by (map f (drop (i + 1) xs)) given)
values_by_at f given xs i d texts value lt is =
    ap (λ (ss : List Setting). option_map (λ values. texts ++ values) (values_by ss given)) (left_map xs i d lt f)
    ∙ ap (λ o. option_map (λ values. texts ++ values) (option_and_then (λ value. option_map (λ values. value ∷ values) (values_by (map f (drop (i + 1) xs)) given)) o)) is
    ∙ go (values_by (map f (drop (i + 1) xs)) given)
  where
    go : (o : Option (List (List ℕ))) → option_map (λ values. texts ++ values) (option_map (λ values. value ∷ values) o) ≡ option_map (λ values. (texts ++ value ∷ []) ++ values) o
    go None = refl
    go (Some values) = ap Some (sym (append_assoc texts (value ∷ []) values))

-- no more values
pub values_by_end : {X : Type 0} (f : X → Setting) (given : List ℕ → List (List ℕ)) (xs : List X) (i : ℕ) (texts : List (List ℕ)) → length xs ≤ i
    → Some texts ≡ option_map (λ values. texts ++ values) (values_by (map f (drop i xs)) given)
values_by_end {X = X} f given xs i texts past =
    ap Some (sym (append-nil texts)) ∙ sym (ap (λ (ys : List X). option_map (λ values. texts ++ values) (values_by (map f ys) given)) (drop_of_length-le xs past))

-- ---- a command's options

-- one more option
pub option_added : (settings : List CodeSetting) (i : ℕ) (d : CodeSetting) (a b : App) → i < length settings → b ≡ with_rule a (option_rule (slice_index_or settings i d).name.now)
    → fold (λ app option. with_rule app (option_rule option)) b (map (λ (s : Setting). s.name) (map setting_of (drop (i + 1) settings)))
    ≡ fold (λ app option. with_rule app (option_rule option)) a (map (λ (s : Setting). s.name) (map setting_of (drop i settings)))
option_added settings i d a b lt is =
    ap (λ (app : App). fold (λ app option. with_rule app (option_rule option)) app (map (λ (s : Setting). s.name) (map setting_of (drop (i + 1) settings)))) is
    ∙ sym (ap (λ (ss : List Setting). fold (λ app option. with_rule app (option_rule option)) a (map (λ (s : Setting). s.name) ss)) (left_map settings i d lt setting_of))

-- the names, straight from the code's settings
pub names-same : (settings : List CodeSetting) → map (λ setting. setting.name.now) settings ≡ map (λ (s : Setting). s.name) (map setting_of settings)
names-same [] = refl
names-same (setting ∷ settings) = ap (λ (names : List Text). setting.name.now ∷ names) (names-same settings)
