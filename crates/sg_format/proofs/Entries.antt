-- Reading the entries of an array of which one was changed.
use Rattle.std.proofs.Common.{◌≡◌, ℕ, zero, suc, ◌<◌, ◌+◌, nat_le, nat_lt, List, [], ◌∷◌, ◌++◌, length, take, get_or, Some, Result, Ok, Err, refl, sym, ap, ◌∙◌, arith}
use Rattle.std.proofs.lemmas.List.{length-append, length_push}
use Rattle.std.proofs.Math.Seq.{take-append_seam, get_or-append_seam}
use Rattle.toml.specs.Data.{Data, Items, no_items, item, get_item, array}
use Rattle.sg_model.specs.declared.fault.Place.{Place}
use Rattle.sg_model.specs.declared.fault.GameFault.{GameFault}
use Rattle.sg_format.specs.Lists.{each, few_at, item_count, some_at}
use Rattle.sg_format.specs.Parts.{set_item}
use Rattle.sg_format.proofs.Inversion.{after, after_test}

pub count_set : (k : ℕ) (value : Data) (items : Items) → item_count (set_item k value items) ≡ item_count items
count_set k value no_items = refl
count_set zero value (item first rest) = refl
count_set (suc k) value (item first rest) = ap suc (count_set k value rest)

pub join_push : {A : Type 0} (xs : List A) (x : A) (ys : List A) → (xs ++ x ∷ []) ++ ys ≡ xs ++ x ∷ ys
join_push [] x ys = refl
join_push (y ∷ xs) x ys = ap (λ zs. y ∷ zs) (join_push xs x ys)

pub join_nothing : {A : Type 0} (xs : List A) → xs ++ [] ≡ xs
join_nothing [] = refl
join_nothing (x ∷ xs) = ap (λ ys. x ∷ ys) (join_nothing xs)

module _ {A : Type 0} (read : List A → Data → Result A GameFault) where
  -- what comes after the values so far
  grown : (sofar : List A) (items : Items) (xs : List A) → each read sofar items ≡ Ok xs → (later : List A) × (xs ≡ sofar ++ later)
  unfolding each
  grown sofar no_items xs e = let same : xs ≡ sofar = cc in ([], same ∙ sym (join_nothing sofar))
  grown sofar (item value rest) xs e =
      after (read sofar value) e (λ x first more. let g = grown (sofar ++ x ∷ []) rest xs more in (x ∷ g.0, g.1 ∙ join_push sofar x g.0))

  -- the value of the entry at an index, among those before and after it
  record IsSeam (sofar : List A) (items : Items) (xs : List A) (k : ℕ) (entry : Data) : Type 0 where
    earlier : List A
    value : A
    later : List A
    is : read earlier entry ≡ Ok value
    whole : xs ≡ earlier ++ value ∷ later
    long : length earlier ≡ length sofar + k
    fails : (others : Items) (other : Data) (fault : GameFault) → ((i : ℕ) → i < k → get_item i others ≡ get_item i items) → get_item k others ≡ Some other → read earlier other ≡ Err fault → each read sofar others ≡ Err fault

  first_fails : (sofar : List A) (others : Items) (other : Data) (fault : GameFault) → get_item 0 others ≡ Some other → read sofar other ≡ Err fault → each read sofar others ≡ Err fault
  unfolding each
  first_fails sofar no_items other fault here f = absurd (cc)
  first_fails sofar (item value rest) other fault here f = let same : value ≡ other = cc in rw (same, f) refl

  next_fails : (sofar : List A) (value : Data) (rest others : Items) (k : ℕ) (other : Data) (x : A) (fault : GameFault) → ((i : ℕ) → i < suc k → get_item i others ≡ get_item i (item value rest))
      → get_item (suc k) others ≡ Some other → read sofar value ≡ Ok x
      → ((tail : Items) → ((i : ℕ) → i < k → get_item i tail ≡ get_item i rest) → get_item k tail ≡ Some other → each read (sofar ++ x ∷ []) tail ≡ Err fault) → each read sofar others ≡ Err fault
  unfolding each
  next_fails sofar value rest no_items k other x fault same_before here first more = absurd (cc)
  next_fails sofar value rest (item head tail) k other x fault same_before here first more =
      let q = same_before 0 (omega arith) in
      let same : head ≡ value = cc in
      let later = more tail (λ i low. same_before (suc i) (omega (arith, low))) here in
      rw (same, first) later

  seam : (sofar : List A) (items : Items) (xs : List A) (k : ℕ) (entry : Data) → each read sofar items ≡ Ok xs → get_item k items ≡ Some entry → IsSeam sofar items xs k entry
  unfolding each
  seam sofar no_items xs k entry e there = absurd (cc)
  seam sofar (item value rest) xs zero entry e there =
      let same : value ≡ entry = cc in
      after (read sofar value) e (λ x first more.
      let g = grown (sofar ++ x ∷ []) rest xs more in
      record {
        earlier = sofar;
        value = x;
        later = g.0;
        is = ap (read sofar) (sym same) ∙ first;
        whole = g.1 ∙ join_push sofar x g.0;
        long = omega arith;
        fails = λ others other fault same_before here f. first_fails sofar others other fault here f;
      })
  seam sofar (item value rest) xs (suc k) entry e there =
      after (read sofar value) e (λ x first more.
      let s = seam (sofar ++ x ∷ []) rest xs k entry more there in
      record {
        earlier = s.earlier;
        value = s.value;
        later = s.later;
        is = s.is;
        whole = s.whole;
        long = omega (arith, s.long, length_push sofar x);
        fails = λ others other fault same_before here f. next_fails sofar value rest others k other x fault same_before here first (λ tail later_same later_here. s.fails tail other fault later_same later_here f);
      })

  -- the entry at an index, read by those before it
  pub record IsEntry (items : Items) (xs : List A) (k : ℕ) (entry : Data) : Type 0 where
    pub value : A
    pub within : k < length xs
    pub is : read (take k xs) entry ≡ Ok value
    pub there : (d : A) → get_or xs k d ≡ value
    pub fails : (others : Items) (other : Data) (fault : GameFault) → ((i : ℕ) → i < k → get_item i others ≡ get_item i items) → get_item k others ≡ Some other → read (take k xs) other ≡ Err fault
        → each read [] others ≡ Err fault

  pub entry_at : (items : Items) (xs : List A) (k : ℕ) (entry : Data) → each read [] items ≡ Ok xs → get_item k items ≡ Some entry → IsEntry items xs k entry
  entry_at items xs k entry e there =
      let s = seam [] items xs k entry e there in
      let long : length s.earlier ≡ k = omega (arith, s.long) in
      let front : take k xs ≡ s.earlier = ap (λ n. take n xs) (sym long) ∙ (ap (take (length s.earlier)) s.whole ∙ take-append_seam s.earlier (s.value ∷ s.later)) in
      record {
        value = s.value;
        within = (let n = ap length s.whole in omega (arith, n, long, length-append s.earlier (s.value ∷ s.later)));
        is = rw front s.is;
        there = λ d. ap (λ n. get_or xs n d) (sym long) ∙ (ap (λ ys. get_or ys (length s.earlier) d) s.whole ∙ get_or-append_seam s.earlier s.value s.later d);
        fails = λ others other fault same_before here f. s.fails others other fault same_before here (rw front at f);
      }

pub some_other : (place : Place) (limit : ℕ) (items others found : Items) → item_count others ≡ item_count items → some_at place limit (array items) ≡ Ok found
    → some_at place limit (array others) ≡ Ok others
unfolding some_at
some_other place limit items others found same e =
    after_test (nat_lt 0 (item_count items)) _ _ e (λ some e1.
    after_test (nat_le (item_count items) limit) _ _ e1 (λ few last. rw (same, some, few) refl))

pub some_is : (place : Place) (limit : ℕ) (items found : Items) → some_at place limit (array items) ≡ Ok found → found ≡ items
unfolding some_at
some_is place limit items found e =
    after_test (nat_lt 0 (item_count items)) _ _ e (λ some e1.
    after_test (nat_le (item_count items) limit) _ _ e1 (λ few last. cc))

pub few_other : (place : Place) (limit : ℕ) (items others found : Items) → item_count others ≡ item_count items → few_at place limit (array items) ≡ Ok found
    → few_at place limit (array others) ≡ Ok others
unfolding few_at
few_other place limit items others found same e = after_test (nat_le (item_count items) limit) _ _ e (λ few last. rw (same, few) refl)

pub few_is : (place : Place) (limit : ℕ) (items found : Items) → few_at place limit (array items) ≡ Ok found → found ≡ items
unfolding few_at
few_is place limit items found e = after_test (nat_le (item_count items) limit) _ _ e (λ few last. cc)

-- the entries before a changed one, and that one
pub before_set : (k : ℕ) (value : Data) (items : Items) (i : ℕ) → i < k → get_item i (set_item k value items) ≡ get_item i items
before_set k value no_items i low = refl
before_set zero value (item first rest) i low = absurd (omega (arith, low))
before_set (suc k) value (item first rest) zero low = refl
before_set (suc k) value (item first rest) (suc i) low = before_set k value rest i (omega (arith, low))

pub at_set : (k : ℕ) (value old : Data) (items : Items) → get_item k items ≡ Some old → get_item k (set_item k value items) ≡ Some value
at_set k value old no_items there = absurd (cc)
at_set zero value old (item first rest) there = refl
at_set (suc k) value old (item first rest) there = at_set k value old rest there
