use Rattle.std.proofs.Common.{◌≡◌, ◌∙◌, true, false, refl, sym, ap, is_some}
use Rattle.std.specs.Prelude.{bytes_eq}
use Rattle.std.specs.List.{list_any}
use Rattle.sg_format.specs.Lists.{new_name}
use Rattle.sg_file.proofs.Numbers.{list_any-numbered}
use Rattle.sg_file.proofs.names.new_name.Goals as goal

pub returns-in-Some-clause-gives : goal.returns-in-Some-clause-gives
unfolding new_name
returns-in-Some-clause-gives c = λ before known.
    let text = c.in_ok-name.name.now in
    let old : list_any (bytes_eq text) before ≡ true =
    list_any-numbered (bytes_eq text) 1 before ∙ ap is_some (sym (known text) ∙ sym c.in-Some.ensures) in
    rw (c.in_ok-name.ensures, old, c.fault.ensures) refl

pub returns-in-None-clause-gives : goal.returns-in-None-clause-gives
unfolding new_name
returns-in-None-clause-gives c = λ before known.
    let text = c.in_ok-name.name.now in
    let new : list_any (bytes_eq text) before ≡ false =
    list_any-numbered (bytes_eq text) 1 before ∙ ap is_some (sym (known text) ∙ sym c.in-None.ensures) in
    rw (c.in_ok-name.ensures, new) refl
