-- What was read of a report is what its bytes spell, and in its ranges.
use Rattle.std.proofs.Common.{◌≡◌, ℕ, suc, zero, ◌+◌, true, List, [], ◌∷◌, ◌++◌, length, map, drop, Option, Some, None, Result, Ok, Err, refl, sym, ap, subst, ◌∙◌, arith, append_assoc}
use Rattle.std.specs.Prelude.{◌==◌, codes, decimal}
use Rattle.std.specs.Fmt.{signed_decimal}
use Rattle.std.specs.Option.{option_map}
use Rattle.std.specs.List.{AllByRecursion, flat_map, join_with_byte}
use Rattle.std.proofs.lemmas.List.{append-nil}
use Rattle.sg_model.specs.declared.ticket.Ticket.{Ticket}
use Rattle.sg_tree.specs.Claims.{Claimed, is_claim}
use Rattle.sg_cert.specs.Place.{Place}
use Rattle.sg_model.specs.Steps.{◌>>=◌}
use Rattle.sg_cert.specs.Lines.{line_at, at_line}
use Rattle.sg_cert.specs.LineReading.{counts_of, ticket_of}
use Rattle.sg_cert.specs.Reading.{Read, repeat, last_play, ticket_at, claim_at}
use Rattle.sg_cert.specs.Text.{FieldRow, spell, text_of, ticket_row, claim_rows}
use Rattle.sg_cert.specs.Ranges.{IsTicket, IsClaim}
use Rattle.sg_cert.proofs.Rows.{text_then}
use Rattle.std.specs.Prelude.{position, take, get_or}
use Rattle.std.proofs.Common.{take-append-drop}
use Rattle.std.proofs.lemmas.Bool.{eqb-true}
use Rattle.std.proofs.lemmas.List.{drop_more}
use Rattle.std.proofs.lemmas.List.Quantifiers.{position-Some}
use Rattle.std.proofs.lemmas.List.Splits.{join_with_byte-slice_split}
use Rattle.sg_cert.specs.Fields.{split_once, fields}
use Rattle.sg_cert.specs.Lines.{line_cut}
use Rattle.sg_cert.specs.LineReading.{MayStand}
use Rattle.sg_cert.proofs.Numbers.{bound}
use Rattle.sg_cert.proofs.Spelled.{spell_join}
use Rattle.sg_cert.proofs.Rising.{rises, rises_push, claim_from_rises}
use Rattle.sg_cert.proofs.LinesBack.{counts_back, ticket_back}

pub ok_is : {A E : Type 0} (x y : A) → ◌≡◌ {A = Result A E} (Ok x) (Ok y) → x ≡ y
ok_is x y e = cc

pub never : {A E : Type 0} (e : E) (x : A) → ◌≡◌ {A = Result A E} (Err e) (Ok x) → ⊥
never e x k = absurd cc

-- ---- lines

cut_back : (b : ℕ) (bs : List ℕ) (o : Option ℕ) (parts : List ℕ × List ℕ) → position (λ x. x == b) bs ≡ o → option_map (λ i. (take i bs, drop (i + 1) bs)) o ≡ Some parts → bs ≡ parts.0 ++ b ∷ parts.1
cut_back b bs None parts e h = absurd cc
cut_back b bs (Some i) parts e h =
    let t = position-Some (λ x. x == b) bs i 0 e in
    let same : get_or bs i 0 ≡ b = eqb-true (get_or bs i 0) b t.1 in
    let k : (take i bs, drop (i + 1) bs) ≡ parts = cc in
    subst (λ (x : List ℕ × List ℕ). bs ≡ x.0 ++ b ∷ x.1) k
    (sym (take-append-drop i bs) ∙ ap (λ (r : List ℕ). take i bs ++ r) (drop_more bs i 0 t.0 ∙ ap (λ (x : ℕ). x ∷ drop (i + 1) bs) same))

line_rest : (o : Option (List ℕ × List ℕ)) (n : ℕ) (bs : List ℕ) (l : List ℕ × Place) → split_once 10 bs ≡ o → line_cut n o ≡ Ok l → bs ≡ l.0 ++ 10 ∷ l.1.rest
line_rest None n bs l e h = absurd (never _ l h)
line_rest (Some parts) n bs l e h =
    let k = ok_is _ l h in
    subst (λ (x : List ℕ × Place). bs ≡ x.0 ++ 10 ∷ x.1.rest) k (cut_back 10 bs (position (λ x. x == 10) bs) parts refl e)

pub line_forth : (p : Place) (l : List ℕ × Place) → line_at p ≡ Ok l → p.rest ≡ l.0 ++ 10 ∷ l.1.rest
unfolding line_at
line_forth p l h = line_rest (split_once 10 p.rest) (p.line + 1) p.rest l refl h

pub row_forth : (p : Place) (l : List ℕ × Place) (w : List ℕ) (fs : FieldRow) → line_at p ≡ Ok l → fields l.0 ≡ w ∷ fs → p.rest ≡ spell (w ∷ fs) ++ l.1.rest
row_forth p l w fs h e =
    let joined : l.0 ≡ join_with_byte 32 (w ∷ fs) = sym (join_with_byte-slice_split 32 l.0) ∙ ap (join_with_byte 32) e in
    line_forth p l h ∙ ap (λ (t : List ℕ). t ++ 10 ∷ l.1.rest) joined ∙ sym (append_assoc (join_with_byte 32 (w ∷ fs)) (10 ∷ []) l.1.rest) ∙ ap (λ (t : List ℕ). t ++ l.1.rest) (sym (spell_join w fs))

pub at_line_back : {A : Type 0} (p : Place) (r : Result A ℕ) (x : A) → at_line p r ≡ Ok x → r ≡ Ok x
at_line_back p (Ok y) x h = ap Ok (ok_is y x h)
at_line_back p (Err e) x h = absurd (never _ x h)

-- what a reading that succeeded took: a fact of the value, and the text of its rows
abbrev pub Took : Type 0 → List ℕ → List FieldRow → List ℕ → Type 0
Took P before rows after = P × (before ≡ text_of rows ++ after)

pub behind_row : (p : Place) (l : List ℕ × Place) (w : List ℕ) (fs : FieldRow) (rows : List FieldRow) (after : List ℕ) → line_at p ≡ Ok l → fields l.0 ≡ w ∷ fs → l.1.rest ≡ text_of rows ++ after → p.rest ≡ text_of ((w ∷ fs) ∷ rows) ++ after
behind_row p l w fs rows after h e k = row_forth p l w fs h e ∙ ap (λ (t : List ℕ). spell (w ∷ fs) ++ t) k ∙ sym (append_assoc (spell (w ∷ fs)) (text_of rows) after)

-- a reader of one line
pub one_forth : {A : Type 0} (parse : FieldRow → Result A ℕ) (p : Place) (x : A × Place) (P : Type 0) (w : List ℕ) (fs : FieldRow)
    → (line_at p >>= λ l. at_line l.1 (parse (fields l.0)) >>= λ y. Ok (y, l.1)) ≡ Ok x
    → ((gs : FieldRow) → parse gs ≡ Ok x.0 → P × (gs ≡ w ∷ fs)) → Took P p.rest ((w ∷ fs) ∷ []) x.1.rest
one_forth parse p x P w fs h back =
    let a = bound (line_at p) (λ l. at_line l.1 (parse (fields l.0)) >>= λ y. Ok (y, l.1)) x h in
    let b = bound (at_line a.0.1 (parse (fields a.0.0))) (λ y. Ok (y, a.0.1)) x a.1.1 in
    let e : (b.0, a.0.1) ≡ x = ok_is (b.0, a.0.1) x b.1.1 in
    let parsed = at_line_back a.0.1 (parse (fields a.0.0)) b.0 b.1.0 in
    let k = back (fields a.0.0) (parsed ∙ ap Ok (ap (λ (y : _ × Place). y.0) e)) in
    (k.0, subst (λ (q : Place). p.rest ≡ text_of ((w ∷ fs) ∷ []) ++ q.rest) (ap (λ (y : _ × Place). y.1) e) (behind_row p a.0 w fs [] a.0.1.rest a.1.0 k.1 refl))

-- ---- items one after the other

abbrev pub Chain : {A : Type 0} → (List A → A → Type 0) → List A → List A → Type 0
Chain P done [] = Unit {0}
Chain P done (x ∷ xs) = P done x × Chain P (done ++ x ∷ []) xs

pub record Items {A : Type 0} (P : List A → A → Type 0) (rows : A → List FieldRow) (done xs : List A) (n : ℕ) (before after : List ℕ) : Type 0 where
  pub more : List A
  pub all : done ++ more ≡ xs
  pub count : length more ≡ n
  pub chain : Chain P done more
  pub text : before ≡ text_of (flat_map rows more) ++ after

pub repeat_forth : {A : Type 0} (item : List A → Place → Read A) (P : List A → A → Type 0) (rows : A → List FieldRow)
    → ((done : List A) (p : Place) (x : A × Place) → item done p ≡ Ok x → Took (P done x.0) p.rest (rows x.0) x.1.rest)
    → (done : List A) (n : ℕ) (p : Place) (xs : List A × Place) → repeat item done n p ≡ Ok xs → Items P rows done xs.0 n p.rest xs.1.rest
unfolding repeat
repeat_forth item P rows forth done zero p xs h =
    let e : (done, p) ≡ xs = ok_is (done, p) xs h in
    subst (λ (y : List _ × Place). Items P rows done y.0 0 p.rest y.1.rest) e (record { more = []; all = append-nil done; count = refl; chain = tt; text = refl })
repeat_forth item P rows forth done (suc n) p xs h =
    let a = bound (item done p) (λ x. repeat item (done ++ x.0 ∷ []) n x.1) xs h in
    let f = forth done p a.0 a.1.0 in
    let ih = repeat_forth item P rows forth (done ++ a.0.0 ∷ []) n a.0.1 xs a.1.1 in
    record {
      more = a.0.0 ∷ ih.more;
      all = sym (append_assoc done (a.0.0 ∷ []) ih.more) ∙ ih.all;
      count = ap (λ (k : ℕ). suc k) ih.count;
      chain = (f.0, ih.chain);
      text = f.1 ∙ ap (λ (t : List ℕ). text_of (rows a.0.0) ++ t) ih.text ∙ sym (append_assoc (text_of (rows a.0.0)) (text_of (flat_map rows ih.more)) xs.1.rest)
          ∙ ap (λ (t : List ℕ). t ++ xs.1.rest) (sym (text_then (rows a.0.0) (flat_map rows ih.more)));
    }

pub single_rows : {A : Type 0} (row : A → FieldRow) (xs : List A) → flat_map (λ (x : A). row x ∷ []) xs ≡ map row xs
single_rows row [] = refl
single_rows row (x ∷ xs) = ap (λ (rs : List FieldRow). row x ∷ rs) (single_rows row xs)

-- ---- tickets

abbrev StandsTicket : List Ticket → Ticket → Type 0
StandsTicket done t = IsTicket t × MayStand (last_play done) t

ticket_forth : (done : List Ticket) (p : Place) (x : Ticket × Place) → ticket_at done p ≡ Ok x → Took (StandsTicket done x.0) p.rest (ticket_row x.0 ∷ []) x.1.rest
unfolding ticket_at
ticket_forth done p x h = one_forth (ticket_of (last_play done)) p x (StandsTicket done x.0) (codes "t") (signed_decimal x.0.weight ∷ map decimal x.0.play.code) h (λ gs k. ticket_back (last_play done) gs x.0 k)

chain_rises : (done ts : List Ticket) → rises done ≡ true → Chain StandsTicket done ts → rises (done ++ ts) ≡ true
chain_rises done [] h c = ap rises (append-nil done) ∙ h
chain_rises done (t ∷ ts) h c = ap rises (sym (append_assoc done (t ∷ []) ts)) ∙ chain_rises (done ++ t ∷ []) ts (rises_push done t h c.0.1.0 c.0.1.1) c.1

each_ticket : (done ts : List Ticket) → Chain StandsTicket done ts → AllByRecursion IsTicket ts
each_ticket done [] c = tt
each_ticket done (t ∷ ts) c = (c.0.0, each_ticket (done ++ t ∷ []) ts c.1)

pub claim_forth : (p : Place) (x : Claimed × Place) → claim_at p ≡ Ok x → Took (IsClaim x.0) p.rest (claim_rows x.0) x.1.rest
unfolding claim_at
claim_forth p x h =
    let a = bound (line_at p) _ x h in
    let b = bound (at_line a.0.1 (counts_of (fields a.0.0))) _ x a.1.1 in
    let c = bound (repeat ticket_at [] b.0.0 a.0.1) _ x b.1.1 in
    let n = counts_back (fields a.0.0) b.0 (at_line_back a.0.1 (counts_of (fields a.0.0)) b.0 b.1.0) in
    let i = repeat_forth ticket_at StandsTicket (λ t. ticket_row t ∷ []) ticket_forth [] b.0.0 a.0.1 c.0 c.1.0 in
    let e : (record { tickets = c.0.0; total = b.0.1 }, c.0.1) ≡ x = ok_is (record { tickets = c.0.0; total = b.0.1 }, c.0.1) x c.1.1 in
    let count : length c.0.0 ≡ b.0.0 = ap length (sym i.all) ∙ i.count in
    let claim : IsClaim (record { tickets = c.0.0; total = b.0.1 }) = record {
      rules = subst (λ (ts : List Ticket). is_claim ts ≡ true) i.all (claim_from_rises i.more (omega (arith, i.count, n.0.0)) (chain_rises [] i.more refl i.chain));
      each = subst (λ (ts : List Ticket). AllByRecursion IsTicket ts) i.all (each_ticket [] i.more i.chain);
      count = omega (arith, count, n.0.0);
      total = n.0.1;
    } in
    let head : fields a.0.0 ≡ codes "tickets" ∷ decimal (length c.0.0) ∷ signed_decimal b.0.1 ∷ [] = n.1 ∙ ap (λ (k : ℕ). codes "tickets" ∷ decimal k ∷ signed_decimal b.0.1 ∷ []) (sym count) in
    let text : a.0.1.rest ≡ text_of (map ticket_row c.0.0) ++ c.0.1.rest = i.text ∙ ap (λ (rows : List FieldRow). text_of rows ++ c.0.1.rest) (single_rows ticket_row i.more ∙ ap (map ticket_row) i.all) in
    subst (λ (y : Claimed × Place). Took (IsClaim y.0) p.rest (claim_rows y.0) y.1.rest) e
    (claim, behind_row p a.0 (codes "tickets") (decimal (length c.0.0) ∷ signed_decimal b.0.1 ∷ []) (map ticket_row c.0.0) c.0.1.rest a.1.0 head text)
