-- Reading the items of an array one after the other, as a loop does.
use Rattle.std.proofs.Common.{◌≡◌, ℕ, suc, ◌+◌, ◌<◌, ◌≤◌, List, [], ◌∷◌, ◌++◌, length, get_or, drop, Result, Ok, Err, map, refl, sym, ap, ◌∙◌}
use Rattle.std.proofs.lemmas.List.{drop_all, length-map, map_push}
use Rattle.toml.specs.Data.{Data}
use Rattle.toml.specs.View.{view as data_of, items_view}
use Rattle.toml.specs.declared.value.Value.{Value}
use Rattle.toml.proofs.Views.{items_view-drop}
use Rattle.sg_model.specs.declared.fault.GameFault.{GameFault}
use Rattle.sg_format.specs.Lists.{item_count, each}
use Rattle.sg_file.specs.declared.fault.GameError.{GameError}
use Rattle.sg_file.specs.declared.fault.GameError.TheVariants.{Refused, Memory}
use Rattle.sg_file.specs.Answers.{FailsPart}

pub item_count_view : (vs : List Value) → item_count (items_view vs) ≡ length vs
item_count_view [] = refl
item_count_view (v ∷ vs) = ap (λ n. suc n) (item_count_view vs)

module _ {A : Type 0} (read : List A → Data → Result A GameFault) (before : List A) (vs : List Value) (i : ℕ) where
  -- an item with a fault
  pub each-failed : (v : Value) (f : GameFault) → i < length vs → read before (data_of (get_or vs i v)) ≡ Err f → each read before (items_view (drop i vs)) ≡ Err f
  unfolding each
  each-failed v f within e = rw (items_view-drop vs i v within, e) refl

  -- an item that isn't read, for whatever error
  pub each-Fails : (v : Value) (e : GameError) → i < length vs → FailsPart e (read before (data_of (get_or vs i v))) → FailsPart e (each read before (items_view (drop i vs)))
  each-Fails v Memory within h = tt
  each-Fails v (Refused f) within h = each-failed v f within h

  -- an item that is read
  pub each-next : (v : Value) (x : A) → i < length vs → read before (data_of (get_or vs i v)) ≡ Ok x
      → each read before (items_view (drop i vs)) ≡ each read (before ++ x ∷ []) (items_view (drop (i + 1) vs))
  unfolding each
  each-next v x within e = rw (items_view-drop vs i v within, e) refl

  -- no item is left
  pub each-done : length vs ≤ i → each read before (items_view (drop i vs)) ≡ Ok before
  unfolding each
  each-done past = rw (drop_all i vs past) refl

-- the same where each item is read by its number, counted from 1, and kept in a form of its own
module _ {X A : Type 0} (show : X → A) (read : ℕ → List A → Data → Result A GameFault) (xs : List X) (vs : List Value) (i : ℕ) (count : length xs ≡ i) where
  number : length (map show xs) + 1 ≡ i + 1
  number = ap (λ (n : ℕ). n + 1) (length-map xs show ∙ count)

  -- an item that isn't read
  pub numbered-Fails : (v : Value) (e : GameError) → i < length vs → FailsPart e (read (i + 1) (map show xs) (data_of (get_or vs i v)))
      → FailsPart e (each (λ before. read (length before + 1) before) (map show xs) (items_view (drop i vs)))
  numbered-Fails v e within h = each-Fails (λ (before : List A). read (length before + 1) before) (map show xs) vs i v e within (rw number h)

  -- an item that is read and kept
  pub numbered-next : (v : Value) (x : X) → i < length vs → read (i + 1) (map show xs) (data_of (get_or vs i v)) ≡ Ok (show x)
      → each (λ before. read (length before + 1) before) (map show (xs ++ x ∷ [])) (items_view (drop (i + 1) vs)) ≡ each (λ before. read (length before + 1) before) (map show xs) (items_view (drop i vs))
  numbered-next v x within h = rw (map_push show xs x) (sym (each-next (λ (before : List A). read (length before + 1) before) (map show xs) vs i v (show x) within (rw number h)))
