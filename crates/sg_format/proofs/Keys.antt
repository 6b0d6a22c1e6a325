-- Look-ups in tables, and tables that differ at one key.
use Rattle.std.proofs.Common.{◌≡◌, ◌≢◌, ◌∙◌, ℕ, Bool, true, false, ◌&&◌, List, Option, Some, refl, sym, ap, subst, inl, inr}
use Rattle.std.specs.Prelude.{bytes_eq}
use Rattle.std.proofs.Common.{Ordering, Less, Equal, Greater}
use Rattle.std.specs.Ordering.{nat_cmp, is_eq, match_ordering}
use Rattle.std.specs.Cmp.Lexicographic.{slice_cmp}
use Rattle.std.proofs.lemmas.Bool.{cases_Bool, true≢false}
use Rattle.std.proofs.lemmas.Map.Text.{is_eq-slice_cmp}
use Rattle.std.proofs.lemmas.Slice.Eq.{bytes_eq-Decides}
use Rattle.toml.specs.Data.{Data, Members, no_members, member, get_member}
use Rattle.sg_format.specs.Documents.{has_only}
use Rattle.sg_format.specs.Changes.{DiffersAt}

pub apart : (a b : List ℕ) → bytes_eq a b ≡ false → a ≢ b
apart a b e q = true≢false (sym ((bytes_eq-Decides a b).1 q) ∙ e)

pub same : (a b : List ℕ) → bytes_eq a b ≡ true → a ≡ b
same a b e = (bytes_eq-Decides a b).0 e

key_equal : (k l : List ℕ) → slice_cmp nat_cmp k l ≡ Equal → k ≡ l
key_equal k l e = same k l (sym (is_eq-slice_cmp k l) ∙ ap is_eq e)

eq_from : (o : Ordering) → is_eq o ≡ true → o ≡ Equal
eq_from Less e = absurd (cc)
eq_from Equal e = refl
eq_from Greater e = absurd (cc)

key_self : (k : List ℕ) → slice_cmp nat_cmp k k ≡ Equal
key_self k = eq_from (slice_cmp nat_cmp k k) (is_eq-slice_cmp k k ∙ (bytes_eq-Decides k k).1 refl)

and_false : (a b : Bool) → b ≡ false → (a && b) ≡ false
and_false true b e = e
and_false false b e = refl

unknown_at : (p : List ℕ → Bool) (k l : List ℕ) (d : Data) (ms : Members) (v : Data) → p k ≡ false → (o : Ordering) → (o ≡ Equal → k ≡ l)
    → match_ordering o (get_member k ms) (Some d) (get_member k ms) ≡ Some v → (get_member k ms ≡ Some v → has_only p ms ≡ false) → (p l && has_only p ms) ≡ false
unknown_at p k l d ms v h Less is e ih = and_false (p l) (has_only p ms) (ih e)
unknown_at p k l d ms v h Equal is e ih = let q : p l ≡ false = sym (ap p (is refl)) ∙ h in rw q refl
unknown_at p k l d ms v h Greater is e ih = and_false (p l) (has_only p ms) (ih e)

-- a table with a key that isn't known
pub unknown_found : (p : List ℕ → Bool) (k : List ℕ) (t : Members) (v : Data) → get_member k t ≡ Some v → p k ≡ false → has_only p t ≡ false
unknown_found p k no_members v e h = absurd (cc)
unknown_found p k (member l d ms) v e h = unknown_at p k l d ms v h (slice_cmp nat_cmp k l) (key_equal k l) e (λ f. unknown_found p k ms v f h)

pub known_found : (p : List ℕ → Bool) (k : List ℕ) (t : Members) (v : Data) → has_only p t ≡ true → get_member k t ≡ Some v → p k ≡ true
known_found p k t v all e = elim (cases_Bool (p k)) [
  | inl holds ↦ holds
  | inr other ↦ absurd (true≢false (sym all ∙ unknown_found p k t v e other))
]

later_at : (p : List ℕ → Bool) (k : List ℕ) (d v : Data) (found : Option Data) → found ≡ Some v → (o : Ordering)
    → ((w : Data) → match_ordering o found (Some d) found ≡ Some w → p k ≡ true) → p k ≡ true
later_at p k d v found e Less f = f v e
later_at p k d v found e Equal f = f d refl
later_at p k d v found e Greater f = f v e

-- a table all of whose keys are known
pub only_from : (p : List ℕ → Bool) (t : Members) → ((k : List ℕ) (v : Data) → get_member k t ≡ Some v → p k ≡ true) → has_only p t ≡ true
only_from p no_members f = refl
only_from p (member l d ms) f =
    let own : get_member l (member l d ms) ≡ Some d = rw (key_self l) refl in
    let here : p l ≡ true = f l d own in
    rw here (only_from p ms (λ k v e. later_at p k d v (get_member k ms) e (slice_cmp nat_cmp k l) (f k)))

-- where a known key is changed, all keys stay known
pub changed_only : (p : List ℕ → Bool) (key : List ℕ) (value : Option Data) (first second : Members) → DiffersAt key value first second → p key ≡ true
    → has_only p first ≡ true → has_only p second ≡ true
changed_only p key value first second d known all =
    only_from p second (λ k w e. elim (cases_Bool (bytes_eq k key)) [
      | inl holds ↦ subst (λ (x : List ℕ). p x ≡ true) (sym (same k key holds)) known
      | inr other ↦ known_found p k first w all (sym (d.elsewhere k (apart k key other)) ∙ e)
    ])
