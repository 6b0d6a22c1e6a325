use Rattle.std.proofs.Common.{◌≡◌, ◌∙◌, ap, sym, drop, map, string_bytes, true, false}
use Rattle.std.proofs.lemmas.Bool.{iff_false}
use Rattle.std.proofs.lemmas.Result.{IfOk-weaker}
use Rattle.clap.specs.Words.{app_of, found_of, kind_of, rows_of, subcommand_rows_of}
use Rattle.sg_words.specs.Stray.{has_stray}
use Rattle.sg_words.specs.Usages.{option_names, usage_of}
use Rattle.sg_words.proofs.Calls.{names_first, names_of_row, tail_slice}
use Rattle.sg_words.proofs.Loops.{names-same}
use Rattle.sg_words.proofs.Parsed.{arguments_given-stray, arguments_given-parsed, arguments_given-failed}
use Rattle.sg_words.proofs.reading.arguments_given.Goals as goal

pub returns-then-has_stray : goal.returns-then-has_stray
returns-then-has_stray c =
    let usage = usage_of c.args.usage.now in
    let words = map string_bytes (drop 1 c.args.words.now) in
    let stray : has_stray (option_names usage) words ≡ true = ap (λ names. has_stray names words) (sym (names-same c.args.usage.now.options.now))
    ∙ ap (λ ws. has_stray (map (λ setting. setting.name.now) c.args.usage.now.options.now) (map string_bytes ws)) (sym (tail_slice c.args.words.now)) ∙ sym c.has_stray.ensures ∙ c.if-has_stray.true in
    arguments_given-stray usage words (names_of_row usage c.requires.table) stray

pub returns-in-Some : goal.returns-in-Some
returns-in-Some c =
    let usage = usage_of c.args.usage.now in
    let words = map string_bytes (drop 1 c.args.words.now) in
    let kept : has_stray (option_names usage) words ≡ false = ap (λ names. has_stray names words) (sym (names-same c.args.usage.now.options.now))
    ∙ ap (λ ws. has_stray (map (λ setting. setting.name.now) c.args.usage.now.options.now) (map string_bytes ws)) (sym (tail_slice c.args.words.now)) ∙ sym c.has_stray.ensures ∙ c.if-has_stray.false in
    IfOk-weaker c.arguments_in.result _ _
    (λ r same. same ∙ arguments_given-parsed usage words (names_of_row usage c.requires.table) (map string_bytes c.args.words.now) (names_first usage.name c.args.words.now c.requires.named)
    (app_of c.in_ok-line.line) c.in_ok-line.ensures kept (subcommand_rows_of c.in-Ok.matches) (rows_of (found_of c.in-Some.found.now))
    c.in-Ok.ensures.kinds (λ simple. (c.in-Ok.ensures.matches simple).1) c.in-Some.ensures.rows)
    c.arguments_in.ensures

pub returns : goal.returns
returns c =
    let usage = usage_of c.args.usage.now in
    let words = map string_bytes (drop 1 c.args.words.now) in
    let kept : has_stray (option_names usage) words ≡ false = ap (λ names. has_stray names words) (sym (names-same c.args.usage.now.options.now))
    ∙ ap (λ ws. has_stray (map (λ setting. setting.name.now) c.args.usage.now.options.now) (map string_bytes ws)) (sym (tail_slice c.args.words.now)) ∙ sym c.has_stray.ensures ∙ c.if-has_stray.false in
    arguments_given-failed usage words (names_of_row usage c.requires.table) (map string_bytes c.args.words.now) (names_first usage.name c.args.words.now c.requires.named)
    (app_of c.in_ok-line.line) c.in_ok-line.ensures kept (kind_of c.in-Err.error) c.in-Err.ensures.kinds (iff_false c.is_memory.ensures c.if-is_memory.false)
