-- The steps of reading one node that end in a fault.
use Rattle.std.proofs.Common.{◌≡◌, ℕ, zero, suc, true, List, [], Option, Result, Ok, Err, refl, ◌∙◌, arith}
use Rattle.std.specs.Prelude.{codes}
use Rattle.sg_tree.specs.declared.fact.Fact.{Fact}
use Rattle.sg_tree.specs.declared.tree.Tree.{Tree}
use Rattle.sg_cert.specs.declared.fault.ReportFault.{ReportFault}
use Rattle.sg_cert_reader.specs.declared.error.ReportError.{ReportError}
use Rattle.sg_cert_reader.specs.declared.error.ReportError.TheVariants as errors
use Rattle.sg_cert.specs.Place.{Place}
use Rattle.sg_cert.specs.Fields.{fields, has_word}
use Rattle.sg_cert.specs.Lines.{line_at, at_line}
use Rattle.sg_cert_reader.specs.Steps.{FailsReport, GivesLines}
use Rattle.sg_cert.specs.LineReading.{split_of}
use Rattle.sg_cert.specs.Reading.{Read, repeat, base_at, split_from, deep_from, node_at}

pub split_refused : (part : Place → Read Tree) (fs : List (List ℕ)) (p : Place) (f : ReportFault)
    → Err f ≡ at_line p (split_of fs) → split_from part fs p ≡ Err f
unfolding split_from
split_refused part fs p f a = rw (← a) refl

pub split_baseless : (part : Place → Read Tree) (fs : List (List ℕ)) (p : Place) (l n : ℕ) (e : ReportError)
    → Ok (l, n) ≡ at_line p (split_of fs) → FailsReport e (base_at p) → FailsReport e (split_from part fs p)
unfolding split_from
split_baseless part fs p l n errors.Memory a b = tt
split_baseless part fs p l n (errors.Refused f) a b = rw (← a, b) refl

pub split_partless : (part : Place → Read Tree) (fs : List (List ℕ)) (p q : Place) (l n : ℕ) (base : Option Fact) (e : ReportError)
    → Ok (l, n) ≡ at_line p (split_of fs) → base_at p ≡ Ok (base, q) → FailsReport e (repeat (λ done x. part x) [] n q) → FailsReport e (split_from part fs p)
unfolding split_from
split_partless part fs p q l n base errors.Memory a b c = tt
split_partless part fs p q l n base (errors.Refused f) a b c = rw (← a, b, c) refl

-- what a node gives, by its line
pub node_unread : (left : ℕ) (p : Place) (f : ReportFault) → line_at p ≡ Err f → node_at left p ≡ Err f
unfolding node_at
node_unread zero p f h = rw h refl
node_unread (suc left) p f h = rw h refl

pub node_deep : (left : ℕ) (p q : Place) (line : List ℕ) → left ≡ 0 → line_at p ≡ Ok (line, q) → has_word 0 (codes "split") (fields line) ≡ true → node_at left p ≡ deep_from (fields line) q
unfolding node_at
node_deep zero p q line e h w = rw (h, w) refl
node_deep (suc left) p q line e h w = absurd (omega (arith, e))

-- along an equation of what was read
pub gives_along : (r : Result Tree ReportError) (q : Place) (x y : Read Tree) → x ≡ y → GivesLines (λ t. t) r q y → GivesLines (λ t. t) r q x
gives_along (Ok t) q x y e g = e ∙ g
gives_along (Err errors.Memory) q x y e g = tt
gives_along (Err (errors.Refused f)) q x y e g = e ∙ g
