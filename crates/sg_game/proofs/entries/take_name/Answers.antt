use Rattle.std.proofs.Common.{◌≡◌, ◌∙◌, string_bytes, true, sym}
use Rattle.std.proofs.lemmas.Map.Text.{btree_set_updates_text}
use Rattle.sg_game.proofs.Fresh.{stands_more}
use Rattle.std.specs.Prelude.{bytes_eq}
use Rattle.sg_game.proofs.entries.take_name.Goals as goal

pub returns-clause-holds : goal.returns-clause-holds
returns-clause-holds c = λ before holds q.
    let key : string_bytes c.in_ok-from_str.field-0 ≡ c.args.name.now = c.in_ok-from_str.ensures.ok in
    btree_set_updates_text (string_bytes c.in_ok-from_str.field-0) c.args.seen.now c.insert.new.self true c.in_ok-is_new.ensures.updates q
    ∙ rw (key, holds q) (sym (stands_more bytes_eq q before c.args.name.now))
