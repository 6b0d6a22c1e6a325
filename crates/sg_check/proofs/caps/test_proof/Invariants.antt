use Rattle.std.proofs.Common.{◌≡◌, ℕ}
use Rattle.sg_check.specs.Answering.{held_line}
use Rattle.sg_check.proofs.Capped.{HasShown}
use Rattle.sg_check.proofs.caps.test_proof.Given as goal

-- the facts so far have passed
abbrev pub invariant-loop-fact : goal.invariant-loop-fact
invariant-loop-fact s = record { count : s.a ≡ s.fact-index; shown : (n : ℕ) → s.line ≡ held_line n → HasShown s.game s.report s.l n s.facts s.next s.fact-index }
