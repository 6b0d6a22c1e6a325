-- One node.
use Rattle.std.proofs.Common.{◌≡◌, ℕ, zero, suc, ◌-◌, ◌<◌, true, false, List, [], Option, Ok, refl, arith}
use Rattle.std.specs.Prelude.{codes}
use Rattle.sg_tree.specs.declared.fact.Fact.{Fact}
use Rattle.sg_tree.specs.declared.tree.Tree.{Tree}
use Rattle.sg_tree.specs.declared.tree.Tree.TheVariants.{Split}
use Rattle.sg_cert.specs.Place.{Place}
use Rattle.sg_cert.specs.Fields.{fields, has_word}
use Rattle.sg_cert.specs.Lines.{line_at, at_line}
use Rattle.sg_cert.specs.LineReading.{split_of}
use Rattle.sg_cert.specs.Reading.{Read, repeat, base_at, leaf_from, split_from, node_at}

pub split_done : (part : Place → Read Tree) (fs : List (List ℕ)) (p q r : Place) (l n : ℕ) (base : Option Fact) (parts : List Tree)
    → Ok (l, n) ≡ at_line p (split_of fs) → base_at p ≡ Ok (base, q) → repeat (λ done x. part x) [] n q ≡ Ok (parts, r) → split_from part fs p ≡ Ok (Split l base parts, r)
unfolding split_from
split_done part fs p q r l n base parts a b c = rw (← a, b, c) refl

-- what a node gives, by its line
pub node_leaf : (left : ℕ) (p q : Place) (line : List ℕ) → line_at p ≡ Ok (line, q) → has_word 0 (codes "split") (fields line) ≡ false → node_at left p ≡ leaf_from (fields line) q
unfolding node_at
node_leaf zero p q line h w = rw (h, w) refl
node_leaf (suc left) p q line h w = rw (h, w) refl

pub node_split : (left : ℕ) (p q : Place) (line : List ℕ) → 0 < left → line_at p ≡ Ok (line, q) → has_word 0 (codes "split") (fields line) ≡ true → node_at left p ≡ split_from (node_at (left - 1)) (fields line) q
unfolding node_at
node_split zero p q line e h w = absurd (omega (arith, e))
node_split (suc left) p q line e h w = let k : suc left - 1 ≡ left = omega arith in rw (h, w, k) refl
