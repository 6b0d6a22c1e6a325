-- A document that differs from that of a game in one part alone agrees with it up to that part.
use Rattle.std.proofs.Common.{◌≡◌, ◌≢◌, ℕ, true, false, List, [], ◌∷◌, Option, Some, is_some, refl, sym, ap, subst, ◌∙◌, inl, inr}
use Rattle.std.specs.Prelude.{bytes_eq}
use Rattle.std.proofs.lemmas.Bool.{cases_Bool, true≢false}
use Rattle.toml.specs.Data.{Data, Members, get_member, table}
use Rattle.sg_format.specs.Changes.{DiffersAt}
use Rattle.sg_format.specs.Parts.{set_item, reading_order, stands_before, Agrees, is_read_before, Changes, at_key, at_number, part_path, Step}
use Rattle.sg_format.specs.PartLaws.{SingleChangeAgrees}
use Rattle.sg_format.proofs.Entries.{at_set, before_set, count_set}

-- the change at a top key
pub record IsTopChange (key : List ℕ) (path : List Step) (value : Data) (first second : Members) : Type 0 where
  pub new : Data
  pub differs : DiffersAt key (Some new) first second
  pub change : Changes path value (get_member key first) new

pub table_is : (first second : Members) → Some (table first) ≡ Some (table second) → first ≡ second
table_is first second e = cc

pub top_change : (key : List ℕ) (path : List Step) (value : Data) (first second : Members) → Changes (at_key key ∷ path) value (Some (table first)) (table second) → IsTopChange key path value first second
top_change key path value first second c =
    let a : first ≡ c.old = table_is first c.old c.was in
    let b : second ≡ c.new = table_is second c.new (ap (λ (d : Data). Some d) c.is) in
    record {
      new = c.value;
      differs = subst (λ (t : Members). DiffersAt key (Some c.value) t second) (sym a) (subst (λ (t : Members). DiffersAt key (Some c.value) c.old t) (sym b) c.differs);
      change = subst (λ (t : Members). Changes path value (get_member key t) c.value) (sym a) c.change;
    }

not_before : (key : List ℕ) (keys : List (List ℕ)) → stands_before key key keys ≡ false
not_before key [] = refl
not_before key (first ∷ keys) = elim (cases_Bool (bytes_eq key first)) [
  | inl is ↦ rw is refl
  | inr isnt ↦ rw isnt (not_before key keys)
]

other_key : (other key : List ℕ) → is_read_before other key ≡ true → other ≢ key
other_key other key holds e = true≢false (sym holds ∙ (ap (λ (k : List ℕ). is_read_before k key) e ∙ not_before key reading_order))

changes_agree : (path : List Step) (value : Data) (first : Option Data) (second : Data) → Changes path value first second → Agrees path value first second
changes_agree [] value first second c = c
changes_agree (at_key key ∷ path) value first second c = record {
  old = c.old;
  new = c.new;
  was = c.was;
  is = c.is;
  value = c.value;
  here = c.differs.here;
  earlier = λ other holds. c.differs.elsewhere other (other_key other key holds);
  keys = λ other ne. ap is_some (c.differs.elsewhere other ne);
  agree = changes_agree path value (get_member key c.old) c.value c.change;
}
changes_agree (at_number n ∷ path) value first second c = record {
  index = c.index;
  number = c.number;
  old = c.items;
  new = set_item c.index c.value c.items;
  was = c.was;
  is = c.is;
  entry = c.entry;
  there = c.there;
  value = c.value;
  here = at_set c.index c.value c.entry c.items c.there;
  earlier = λ i low. before_set c.index c.value c.items i low;
  size = count_set c.index c.value c.items;
  agree = changes_agree path value (Some c.entry) c.value c.change;
}

pub single_change : SingleChangeAgrees
single_change first second g part value d = changes_agree (part_path g.kind part) value (Some (table first)) (table second) d
