-- What a lane is told, from what is tested of it.
use Rattle.std.proofs.Common.{◌≡◌, ◌⊎◌, ℕ, zero, suc, ◌+◌, ◌≤◌, ◌<◌, Bool, true, false, true≢false, List, [], ◌∷◌, length, sym, ◌∙◌, ap, subst, refl, arith, Option, Some, None, Contains, IsTrue}
use Rattle.sg_tree.specs.declared.fix.Fix.{Fix}
use Rattle.sg_search.specs.declared.held.Held.{Held}
use Rattle.sg_search.specs.declared.event.Ready.{Ready}
use Rattle.sg_search.specs.Searches.{Task, Search, busy_count, lane_at}
use Rattle.sg_search.specs.Bounding.{is_open}
use Rattle.sg_search.specs.Changes.{Holds, IsFree, MayBegin}
use Rattle.sg_search.specs.Events.{AreChoices, IsChoice, MayChoose, Tells}
use Rattle.sg_search.proofs.Listing.{here-in, none-in}
use Rattle.sg_search.proofs.Told.{at-in, told-begin, told-held, told-nothing}

none-held : (s : Search) (lane : ℕ) → ((node : Fix) × Holds s lane node true → ⊥) → ((node : Fix) × Holds s lane node false → ⊥) → (node : Fix) (ended : Bool) → Holds s lane node ended → ⊥
none-held s lane a b node true h = a (node, h)
none-held s lane a b node false h = b (node, h)

pub told-finish : (p : Task) (s : Search) (lane : ℕ) → (node : Fix) × Holds s lane node true → Tells p s lane Ready.Finish
told-finish p s lane h = told-held p s lane h.0 true h.1

pub told-turn : (p : Task) (s : Search) (lane : ℕ) → (node : Fix) × Holds s lane node false → Tells p s lane Ready.Turn
told-turn p s lane h = told-held p s lane h.0 false h.1

-- nothing, where it neither holds a node nor may begin one
pub told-none : (p : Task) (s : Search) (lane : ℕ) → ((node : Fix) × Holds s lane node true → ⊥) → ((node : Fix) × Holds s lane node false → ⊥) → ((n : ℕ) (node : Fix) → MayBegin p s lane → IsChoice p s n node → ⊥) → Tells p s lane Ready.Nothing
told-none p s lane a b c = told-nothing p s lane (none-held s lane a b) c

-- no choices
pub no-choice : (p : Task) (s : Search) → (nodes : List Fix) × AreChoices (MayChoose p s) nodes × (0 ≡ length nodes) → (n : ℕ) (node : Fix) → IsChoice p s n node → ⊥
no-choice p s (nodes, c, e) n node choice = by nodes e c
  where
    by : (xs : List Fix) → 0 ≡ length xs → AreChoices (MayChoose p s) xs → ⊥
    by [] q d = none-in ((d.each node).1 ((choice.choices.each node).0 (at-in choice.nodes n node choice.place)))
    by (x ∷ xs) q d = omega (arith, q)

-- a node that may be chosen, where there are some
pub one-choice : (p : Task) (s : Search) (count : ℕ) → (nodes : List Fix) × AreChoices (MayChoose p s) nodes × (count ≡ length nodes) → 1 ≤ count → (node : Fix) × MayChoose p s node
one-choice p s count (nodes, c, e) some = by nodes e c
  where
    by : (xs : List Fix) → count ≡ length xs → AreChoices (MayChoose p s) xs → (node : Fix) × MayChoose p s node
    by [] q d = absurd (omega (arith, q, some))
    by (x ∷ xs) q d = (x, (d.each x).0 (here-in x xs))

pub told-count : (p : Task) (s : Search) (lane count : ℕ) → (nodes : List Fix) × AreChoices (MayChoose p s) nodes × (count ≡ length nodes) → 1 ≤ count → IsFree s lane → length s.worked + busy_count s < p.nodes → is_open p s ≡ true → Tells p s lane (Ready.Begin count)
told-count p s lane count (nodes, c, e) some free room yet =
    subst (λ (n : ℕ). Tells p s lane (Ready.Begin n)) (sym e) (told-begin p s lane nodes (record { free = free; room = room; open_yet = yet }) c (omega (arith, e, some)))
