use Rattle.std.proofs.Common.{◌≡◌, ◌+◌, ℕ, ℤ, List, arith, of_z, refl, subst, sym, to_z, Ok}
use Rattle.std.specs.Int.{w64}
use Rattle.std.proofs.lemmas.Int.{ints}
use Rattle.std.specs.List.{All}
use Rattle.sg_tree.specs.declared.fact.Fact.{Fact}
use Rattle.sg_bounds.specs.Caps.{IsUnderCap}
use Rattle.sg_bounds.specs.Checking.{proof_lines, proof_stops}
use Rattle.sg_check.specs.Answering.{LineAnswers, TellsFirst, held_line}
use Rattle.sg_check.proofs.Capped.{cap-above, cap-fact, cap-passes}
use Rattle.sg_check.proofs.caps.test_cap.Goals as goal

pub returns-then-not-are_under : goal.returns-then-not-are_under
returns-then-not-are_under c = λ n e.
    let g = c.args.game.now in
    let r = c.args.report.now in
    let l : ℕ = c.args.i + 2 in
    let x = c.args.cap.now in
    let passes = (c.if-not-is_capped.ensures l refl).0 refl in
    let next : c.saturating_add.result ≡ held_line (n + 1) = omega (arith, e, c.saturating_add.ensures) in
    let a = c.in-Ok.ensures (n + 1) next in
    let b = subst (λ (fs : List Fact). LineAnswers g r (proof_stops x.l 1 (n + 1) fs) (n + 1 + proof_lines fs) (Ok c.in-Ok.next)) c.as_slice-facts.ensures a in
    let d = subst (λ (m : ℕ). LineAnswers g r (proof_stops m 1 (n + 1) x.proof) (n + 1 + proof_lines x.proof) (Ok c.in-Ok.next)) passes.1 b in
    let v : to_z w64 (of_z w64 c.bound_of_cap.result) ≡ x.v = omega (arith, ints, c.bound_of_cap.type_inv, c.bound_of_cap.ensures) in
    cap-above g r l n x passes c.args.line e d.0 (λ all.
    let here = subst (λ (fs : List Fact). All (IsUnderCap g l x.v) fs) (sym c.as_slice-facts.ensures) all in
    let there = subst (λ (m : ℕ). All (IsUnderCap g m x.v) c.as_slice-facts.result.now) (sym passes.1) here in
    let no = c.if-not-are_under.ensures.1 (subst (λ (z : ℤ). All (IsUnderCap g x.l z) c.as_slice-facts.result.now) (sym v) there) in
    absurd (cc))

pub returns-else-not-are_under : goal.returns-else-not-are_under
returns-else-not-are_under c = λ n e.
    let g = c.args.game.now in
    let r = c.args.report.now in
    let l : ℕ = c.args.i + 2 in
    let x = c.args.cap.now in
    let passes = (c.if-not-is_capped.ensures l refl).0 refl in
    let next : c.saturating_add.result ≡ held_line (n + 1) = omega (arith, e, c.saturating_add.ensures) in
    let a = c.in-Ok.ensures (n + 1) next in
    let b = subst (λ (fs : List Fact). LineAnswers g r (proof_stops x.l 1 (n + 1) fs) (n + 1 + proof_lines fs) (Ok c.in-Ok.next)) c.as_slice-facts.ensures a in
    let d = subst (λ (m : ℕ). LineAnswers g r (proof_stops m 1 (n + 1) x.proof) (n + 1 + proof_lines x.proof) (Ok c.in-Ok.next)) passes.1 b in
    let v : to_z w64 (of_z w64 c.bound_of_cap.result) ≡ x.v = omega (arith, ints, c.bound_of_cap.type_inv, c.bound_of_cap.ensures) in
    let one = subst (λ (z : ℤ). All (IsUnderCap g x.l z) c.as_slice-facts.result.now) v (c.if-not-are_under.ensures.0 refl) in
    let two = subst (λ (m : ℕ). All (IsUnderCap g m x.v) c.as_slice-facts.result.now) passes.1 one in
    let all = subst (λ (fs : List Fact). All (IsUnderCap g l x.v) fs) c.as_slice-facts.ensures two in
    cap-passes g r l n x passes c.in-Ok.next d all

pub returns-in-Err : goal.returns-in-Err
returns-in-Err c = λ n e.
    let g = c.args.game.now in
    let r = c.args.report.now in
    let l : ℕ = c.args.i + 2 in
    let x = c.args.cap.now in
    let passes = (c.if-not-is_capped.ensures l refl).0 refl in
    let next : c.saturating_add.result ≡ held_line (n + 1) = omega (arith, e, c.saturating_add.ensures) in
    let a = c.in-Err.ensures (n + 1) next in
    let b = subst (λ (fs : List Fact). TellsFirst g r (proof_stops x.l 1 (n + 1) fs) c.in-Err.refusal) c.as_slice-facts.ensures a in
    let d = subst (λ (m : ℕ). TellsFirst g r (proof_stops m 1 (n + 1) x.proof) c.in-Err.refusal) passes.1 b in
    cap-fact g r l n x passes c.in-Err.refusal d
