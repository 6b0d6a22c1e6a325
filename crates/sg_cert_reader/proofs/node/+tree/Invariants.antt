use Rattle.std.proofs.Common.{◌≡◌, [], ◌+◌, ◌-◌, ◌*◌}
use Rattle.sg_cert.specs.Reading.{repeat, node_at}
use Rattle.sg_cert_reader.proofs.node.+tree.Given as goal

abbrev pub decreases-node : goal.decreases-node
decreases-node l = 3 * l.left

abbrev pub decreases-parts : goal.decreases-parts
decreases-parts l = 3 * l.left + 1

abbrev pub decreases-split_after : goal.decreases-split_after
decreases-split_after l = 3 * l.left + 2

abbrev pub invariant-parts-loop : goal.invariant-parts-loop
invariant-parts-loop l = repeat (λ done q. node_at l.left q) l.parts (l.n - l.counter) l.lines ≡ repeat (λ done q. node_at l.left q) [] l.n l.fn.lines
