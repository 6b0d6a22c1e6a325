-- Bytes that a reader gave.
use Rattle.std.proofs.Common.{◌≡◌, ℕ, ◌+◌, ◌<◌, ◌≤◌, List, ◌++◌, length, ap, sym, ◌∙◌, arith, length-append}
use Rattle.std.proofs.lemmas.List.{append-nil}
use Rattle.std.specs.Prelude.{Option, Some, None, IfSome}
use Rattle.std.specs.Io.KnownBytes.{Consumes, IsAtEnd, Keeps}
use Rattle.std.proofs.KnownBytes.{Consumes-kept}
use Rattle.sg_shelf.specs.ReaderState.{GivesAtMost, MayHaveMore}

-- The reader gave bytes, which are few.
pub gives_few : (most : ℕ) (before after : Option (List ℕ)) (bytes : List ℕ) → length bytes ≤ most → Consumes before after bytes → GivesAtMost most before after
gives_few most None after bytes few given = tt
gives_few most (Some before) None bytes few given = absurd given
gives_few most (Some before) (Some after) bytes few given =
    let long : length before ≡ length bytes + length after = ap length given ∙ length-append bytes after in
    omega (arith, few, long)

-- It gave few bytes, and then none.
pub gives_few_kept : (most : ℕ) (before after end : Option (List ℕ)) (bytes : List ℕ) → length bytes ≤ most → Consumes before after bytes → Keeps after end
    → GivesAtMost most before end
gives_few_kept most before after end bytes few given kept = gives_few most before end bytes few (Consumes-kept before after end bytes given kept)

-- It gave more bytes than the limit, so it had more.
pub gave_more : (limit : ℕ) (before after : Option (List ℕ)) (bytes : List ℕ) → limit < length bytes → Consumes before after bytes → MayHaveMore limit before
gave_more limit None after bytes more given = tt
gave_more limit (Some before) None bytes more given = absurd given
gave_more limit (Some before) (Some after) bytes more given =
    let long : length before ≡ length bytes + length after = ap length given ∙ length-append bytes after in
    omega (arith, more, long)

-- It gave bytes up to its end, so these are all that it had.
pub gave_all : (before after : Option (List ℕ)) (bytes : List ℕ) → Consumes before after bytes → IsAtEnd after → IfSome before (λ all. bytes ≡ all)
gave_all None after bytes given end = tt
gave_all (Some before) None bytes given end = absurd given
gave_all (Some before) (Some after) bytes given end = sym (given ∙ ap (λ rest. bytes ++ rest) end ∙ append-nil bytes)
