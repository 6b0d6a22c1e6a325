use Rattle.std.proofs.Common.{◌≡◌, ◌∙◌, ap, sym, map, string_bytes, option_map, List, None}
use Rattle.std.specs.Prelude.{option_and_then}
use Rattle.sg_words.specs.Commands.{asked_by, asked_of, command_given}
use Rattle.sg_words.specs.Words.{Text}
use Rattle.sg_words.specs.Usages.{given_of}
use Rattle.sg_words.proofs.Written.{given_exactly, none_exactly}
use Rattle.sg_words.proofs.Ranged.{words_are_in_range}
use Rattle.sg_words.proofs.commands.command_of.Goals as goal

pub returns-in-Some : goal.returns-in-Some
returns-in-Some c =
    let words = map string_bytes c.args.words.now in
    let read = sym (ap (option_map given_of) c.in-Some.is) ∙ c.in_ok-given.ensures in
    let answer : option_map asked_of c.command_with.result ≡ command_given words =
    c.command_with.ensures ∙ ap (λ texts. asked_by c.in-Some.given.name.now (map (λ text. text.now) texts)) c.as_slice.ensures.value
    ∙ ap (option_and_then (λ (given : Text × List Text). asked_by given.0 given.1)) read in
    record { answer = answer; given = given_exactly _ words answer; none = none_exactly c.command_with.result words answer; ranges = λ command is. words_are_in_range words (asked_of command) (sym answer ∙ ap (option_map asked_of) is) }

pub returns-in-None : goal.returns-in-None
returns-in-None c =
    let words = map string_bytes c.args.words.now in
    let read = sym (ap (option_map given_of) c.in-None.is) ∙ c.in_ok-given.ensures in
    let answer : None ≡ command_given words = ap (option_and_then (λ (given : Text × List Text). asked_by given.0 given.1)) read in
    record { answer = answer; given = given_exactly None words answer; none = none_exactly None words answer; ranges = λ command is. absurd cc }
