use Rattle.std.proofs.Common.{◌≡◌, ◌∙◌, ◌+◌, ap, arith, string_bytes}
use Rattle.sg_gen.specs.Generated.{numbered}
use Rattle.sg_gen.proofs.Lists.{seen-more}
use Rattle.sg_gen.proofs.names.numbered_names.Goals as goal

pub loop-k-preserved : goal.loop-k-preserved
loop-k-preserved c =
    let e : c.loop-k.k + 1 ≡ 1 + c.loop-k.k = omega arith in
    seen-more string_bytes (numbered c.args.front.now) 1 c.loop-k.k c.loop-k.names.items c.push.new.self.items c.in_ok-numbered.field-0 c.loop-k.invariant c.in_ok-push.ensures.items (c.in_ok-numbered.ensures ∙ ap (numbered c.args.front.now) e)
