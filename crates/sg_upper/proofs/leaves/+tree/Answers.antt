use Rattle.std.proofs.Common.{◌≡◌, ◌+◌, ℕ, List, arith, length, subst, sym}
use Rattle.sg_tree.specs.declared.tree.Tree.{Tree}
use Rattle.sg_bounds.specs.Leaves.{base_bound}
use Rattle.sg_upper.specs.Tops.{AreStatedParts, RaisesByParts}
use Rattle.sg_upper.proofs.Walked.{by_closed, by_split, by_split-Err, by_unproved, nodes, stated-closed, stated_part, stated-split, walk-end, walk-fails, walk-more, walk-start}
use Rattle.sg_upper.proofs.leaves.+tree.Goals as goal

pub raised_by_node-returns-in-Unproved : goal.raised_by_node-returns-in-Unproved
raised_by_node-returns-in-Unproved t c = λ g caps over are stated shows. by_unproved g caps c.args.n over c.args.best c.raised.result c.args.node.now c.in-Unproved.is (c.raised.ensures _ shows)

pub raised_by_node-returns-in-Ok : goal.raised_by_node-returns-in-Ok
raised_by_node-returns-in-Ok t c = λ g caps over are stated shows.
    let s = stated-closed (length g.types) c.args.n c.args.node.now c.in-Closed.fact c.in-Closed.is stated in
    by_closed g caps c.args.n over c.args.best c.raised-in-Ok.result c.args.node.now c.in-Closed.fact c.in-Ok.bound c.in-Closed.is (c.in-Ok.ensures g caps are s.0 s.1) c.raised-in-Ok.ensures

pub raised_by_node-returns-in-Ok-base_bound : goal.raised_by_node-returns-in-Ok-base_bound
raised_by_node-returns-in-Ok-base_bound t c = λ g caps over are stated shows.
    let s = stated-split (length g.types) c.args.n c.in-Split.l c.args.node.now c.in-Split.base c.in-Split.parts c.in-Split.is stated in
    let next : c.saturating_add.result ≡ c.args.n + 1 = omega (arith, c.saturating_add.ensures, s.0, are.few) in
    let h = c.in-Ok-base_bound.ensures g caps over are (omega (arith, s.0)) s.1 shows in
    by_split g caps c.args.n over c.args.best c.args.node.now c.in-Split.l c.in-Split.base c.in-Split.parts c.in-Ok-base_bound.bound c.raised_by_parts.result c.in-Split.is h
    (subst (λ (k : ℕ). RaisesByParts g caps k (base_bound g caps c.args.n over c.in-Split.base) c.args.best (nodes c.in-Split.parts) c.raised_by_parts.result) next
    (subst (λ (ps : List Tree). RaisesByParts g caps c.saturating_add.result (base_bound g caps c.args.n over c.in-Split.base) c.args.best (nodes ps) c.raised_by_parts.result) c.as_slice.ensures
    (c.raised_by_parts.ensures g caps (base_bound g caps c.args.n over c.in-Split.base) are
    (subst (λ (ps : List Tree). AreStatedParts (length g.types) c.saturating_add.result (nodes ps)) (sym c.as_slice.ensures) (subst (λ (k : ℕ). AreStatedParts (length g.types) k (nodes c.in-Split.parts)) (sym next) s.2)) h.1)))

pub raised_by_node-returns-in-Err-base_bound : goal.raised_by_node-returns-in-Err-base_bound
raised_by_node-returns-in-Err-base_bound t c = λ g caps over are stated shows.
    let s = stated-split (length g.types) c.args.n c.in-Split.l c.args.node.now c.in-Split.base c.in-Split.parts c.in-Split.is stated in
    by_split-Err g caps c.args.n over c.args.best c.args.node.now c.in-Split.l c.in-Split.base c.in-Split.parts c.in-Err-base_bound.wide c.in-Split.is (c.in-Err-base_bound.ensures g caps over are (omega (arith, s.0)) s.1 shows)

pub raised_by_parts-returns-in-Err : goal.raised_by_parts-returns-in-Err
raised_by_parts-returns-in-Err t c = λ g caps over are stated shows.
    walk-fails g caps c.args.n over c.args.best c.loop-part.top c.loop-part.part-index c.args.parts.now c.part-item.result c.in-Err.wide (omega arith) c.part-item.is
    (c.loop-part.invariant g caps over are stated shows) (c.in-Err.ensures g caps over are (stated_part (length g.types) c.args.n c.args.parts.now stated c.loop-part.part-index c.part-item.result (omega arith) c.part-item.is) shows)

pub raised_by_parts-loop-part-preserved : goal.raised_by_parts-loop-part-preserved
raised_by_parts-loop-part-preserved t c = λ g caps over are stated shows.
    walk-more g caps c.args.n over c.args.best c.loop-part.top c.in-Ok.next c.loop-part.part-index c.args.parts.now c.part-item.result (omega arith) c.part-item.is
    (c.loop-part.invariant g caps over are stated shows) (c.in-Ok.ensures g caps over are (stated_part (length g.types) c.args.n c.args.parts.now stated c.loop-part.part-index c.part-item.result (omega arith) c.part-item.is) shows)

pub raised_by_parts-returns : goal.raised_by_parts-returns
raised_by_parts-returns t c = λ g caps over are stated shows. walk-end g caps c.args.n over c.args.best c.loop-part.top c.loop-part.part-index c.args.parts.now (omega arith) (c.loop-part.invariant g caps over are stated shows)

pub raised_by_parts-loop-part-init : goal.raised_by_parts-loop-part-init
raised_by_parts-loop-part-init t c = λ g caps over are stated shows. walk-start g caps c.args.n over c.args.best c.args.parts.now
