-- Rows that a sink took one after the other.
use Rattle.std.proofs.Common.{◌≡◌, ℕ, suc, ◌+◌, ◌<◌, List, [], ◌∷◌, ◌++◌, length, take, drop, get_or, sym, ◌∙◌, ap, subst, refl, arith, append_assoc, inl, inr}
use Rattle.std.proofs.lemmas.Bool.{cases_lt}
use Rattle.std.specs.Prelude.{Option, Some, None, option_map}
use Rattle.std.proofs.Math.Seq.{drop-append_seam, drop-cons, take-append-add, take-append_seam}
use Rattle.std.proofs.lemmas.List.{append-nil, take-append-le, get_or_default, take_all}
use Rattle.csv.specs.Writing.{default_writer, row_text}
use Rattle.sg_model.specs.declared.ticket.Ticket.{Ticket}
use Rattle.sg_model.specs.Games.{Game}
use Rattle.sg_tickets.specs.Expansion.{play_at}
use Rattle.sg_commit.specs.Joining.{no_ticket}
use Rattle.sg_shelf.specs.Taken.{Takes, TakesFront}
use Rattle.std.specs.Prelude.{decimal}
use Rattle.sg_roster.specs.Rows.{assignments, day_fields, days_from, records_text}
use Rattle.sg_roster.specs.Writing.{HasPut, RowWriter, WritesRow, block_of}

-- two pieces, one after the other
both_taken : (a b c : Option (List ℕ)) (first second : List ℕ) → Takes a b first → Takes b c second → Takes a c (first ++ second)
both_taken None b c first second one other = other ∙ ap (option_map (λ taken. taken ++ second)) one
both_taken (Some x) b c first second one other =
    other ∙ ap (option_map (λ taken. taken ++ second)) one ∙ ap Some (append_assoc x first second)

nothing_taken : (a : Option (List ℕ)) → Takes a a []
nothing_taken None = refl
nothing_taken (Some x) = ap Some (sym (append-nil x))

-- nothing is a front of any text
pub no_front : (a : Option (List ℕ)) (text : List ℕ) → TakesFront a a text
no_front a text = (0, nothing_taken a)

-- nothing is put at first
pub none_put : (a : Option (List ℕ)) (whole : List ℕ) → HasPut a a whole whole
none_put a whole = record { part = []; taken = nothing_taken a; all = refl }

-- one row more
pub row_put : (a b c : Option (List ℕ)) (whole row rest : List ℕ) → HasPut a b whole (row ++ rest) → Takes b c row → HasPut a c whole rest
row_put a b c whole row rest put taken = record {
  part = put.part ++ row;
  taken = both_taken a b c put.part row put.taken taken;
  all = append_assoc put.part row rest ∙ put.all;
}

-- a front of the next row
pub front_put : (a b c : Option (List ℕ)) (whole row rest : List ℕ) → HasPut a b whole (row ++ rest) → TakesFront b c row → TakesFront a c whole
front_put a b c whole row rest put (n, taken) =
    let part : ℕ = length put.part in
    let front : (m : ℕ) → take m (row ++ rest) ≡ take n row → take (part + m) whole ≡ put.part ++ take n row =
    λ m e. ap (take (part + m)) (sym put.all) ∙ take-append-add put.part (row ++ rest) m ∙ ap (λ (t : List ℕ). put.part ++ t) e in
    let reached : (m : ℕ) → take m (row ++ rest) ≡ take n row → TakesFront a c whole =
    λ m e. (part + m, subst (Takes a c) (sym (front m e)) (both_taken a b c put.part (take n row) put.taken taken)) in
    elim (cases_lt n (length row)) [
      | inl low ↦ reached n (take-append-le n row rest (omega arith))
      | inr high ↦ reached (length row) (take-append_seam row rest ∙ sym (take_all n row high))
    ]

-- all was put
pub all_put : (a b : Option (List ℕ)) (whole : List ℕ) → HasPut a b whole [] → Takes a b whole
all_put a b whole put = subst (Takes a b) (sym (append-nil put.part) ∙ put.all) put.taken

-- what was added to the block
pub added_row : (old new : RowWriter) (fields : List (List ℕ)) → WritesRow old new fields → drop (length (block_of old)) (block_of new) ≡ row_text default_writer fields
added_row old new fields wrote = ap (drop (length (block_of old))) wrote.block ∙ drop-append_seam (block_of old) (row_text default_writer fields)

-- the next day, and those after it
pub next_day : (g : Game) (k : List Ticket) (order : List ℕ) (i d : ℕ) → i < length order
    → records_text (days_from g k (i + 1) (drop i order)) ≡ row_text default_writer (day_fields g k (i + 1) (get_or order i d)) ++ records_text (days_from g k (i + 1 + 1) (drop (i + 1) order))
next_day g k order i d lt =
    let one : suc i ≡ i + 1 = omega arith in
    ap (λ (ds : List ℕ). records_text (days_from g k (i + 1) ds)) (drop-cons order i d lt ∙ ap (λ (j : ℕ). get_or order i d ∷ drop j order) one)

-- the play at a place
pub at_place : (k : List Ticket) (place : ℕ) (x : Ticket) → place < length k → x ≡ get_or k place x → x.play.code ≡ play_at k place
at_place k place x lt here = ap (λ (t : Ticket). t.play.code) (here ∙ get_or_default k place x no_ticket lt)

-- the text from a day on begins with the row of what is played then
pub day_row : (g : Game) (tickets k : List Ticket) (order : List ℕ) (i : ℕ) (x : Ticket) (code : List ℕ) → i < length order → get_or order i 0 < length k → tickets ≡ k
    → x ≡ get_or tickets (get_or order i 0) x → code ≡ x.play.code
    → records_text (days_from g k (i + 1) (drop i order)) ≡ row_text default_writer (decimal (i + 1) ∷ assignments g code) ++ records_text (days_from g k (i + 1 + 1) (drop (i + 1) order))
day_row g tickets k order i x code lt known same here is =
    let place : ℕ = get_or order i 0 in
    let rest : List ℕ = records_text (days_from g k (i + 1 + 1) (drop (i + 1) order)) in
    let played : code ≡ play_at k place = is ∙ at_place k place x known (here ∙ ap (λ (ts : List Ticket). get_or ts place x) same) in
    next_day g k order i 0 lt ∙ ap (λ (play : List ℕ). row_text default_writer (decimal (i + 1) ∷ assignments g play) ++ rest) (sym played)
