-- Each reader of a report tells the same where more bytes stand behind.
use Rattle.std.proofs.Common.{◌≡◌, ℕ, zero, suc, ◌+◌, ◌≤◌, Bool, true, false, cond, List, [], ◌∷◌, ◌++◌, length, Option, Some, None, Ok, Err, inl, inr, refl, sym, ap, subst, arith, length-append}
use Rattle.std.specs.Prelude.{codes, ◌==◌, bytes_eq}
use Rattle.std.specs.Option.{option_map}
use Rattle.std.proofs.lemmas.Bool.Decides.{nat_tests}
use Rattle.sg_model.specs.declared.ticket.Ticket.{Ticket}
use Rattle.sg_tree.specs.declared.fact.Mark.{Mark}
use Rattle.sg_tree.specs.declared.fact.Line.{Line}
use Rattle.sg_tree.specs.declared.fact.Fact.TheVariants.{Plays, Cover}
use Rattle.sg_tree.specs.declared.tree.Tree.{Tree}
use Rattle.sg_tree.specs.declared.tree.Tree.TheVariants.{Split}
use Rattle.sg_tree.specs.declared.report.Cap.{Cap}
use Rattle.sg_cert.specs.Place.{Place}
use Rattle.sg_cert.specs.Fields.{fields, has_word, shaped_as, split_once}
use Rattle.sg_model.specs.Steps.{◌>>=◌}
use Rattle.sg_cert.specs.Lines.{ended, line_at, line_cut, next_line, start}
use Rattle.sg_cert.specs.LineReading.{cap_head_of, counts_of, fraction_of, header_of, mark_of, multiplier_of, split_of, ticket_of, verdict_of, water_of}
use Rattle.sg_cert.specs.Reading.{Read, base_at, base_from, cap_at, cap_from, caps_at, claim_at, closed_from, cover_from, deep_from, end_of, fact_at, fact_from, first_at, fraction_at, head_at, last, last_play, leaf_from, leaf_of, line_begins, mark_at, node_at, open_from, plays_from, proof_at, repeat, report_of, row_at, split_from, tail_of, ticket_at, verdict_at, water_from, word_line_at}
use Rattle.sg_report_laws.specs.Faults.{newlines}
use Rattle.sg_report_laws.proofs.Cuts.{IsCut, Parts, is_cut}
use Rattle.sg_report_laws.proofs.LineFaults as other
use Rattle.sg_report_laws.proofs.Steady.{Ends, Keeps, Late, LineKeeps, behind, either, ends_as, fault_then, here, keeps_from, late_from, late_then, line_keeps, line_late, line_of, lines_to, one_line, refused, repeat_keeps, then, then_ends, within}

module _ (more : List ℕ) where
  abbrev Steady : {A : Type 0} → (Place → Read A) → Type 0
  Steady read = (p : Place) → Keeps p more (read p) (read (behind p more))

  -- ---- tickets

  ticket : (done : List Ticket) → Steady (ticket_at done)
  unfolding ticket_at
  ticket done p = line_of (ticket_of (last_play done)) (other.ticket (last_play done)) p more

  claim : Steady claim_at
  unfolding claim_at
  claim p =
      then p more (line_at p) (line_at (behind p more)) _ (one_line p more)
      (λ l q. within q more (counts_of (fields l)) _ _ (other.counts (fields l))
      (λ n. then q more (repeat ticket_at [] n.0 q) (repeat ticket_at [] n.0 (behind q more)) _ (repeat_keeps ticket_at more ticket n.0 [] q)
      (λ ts s. here s more (record { tickets = ts; total = n.1 }))))

  -- ---- facts

  mark : (done : List Mark) → Steady (mark_at done)
  unfolding mark_at
  mark done p = line_of (mark_of (last done)) (other.mark (last done)) p more

  row : (done : List Line) → Steady (row_at done)
  unfolding row_at
  row done p = line_of (multiplier_of (last done)) (other.row (last done)) p more

  plays : (fs : List (List ℕ)) → Steady (plays_from fs)
  unfolding plays_from
  plays fs p =
      within p more (header_of (codes "plays") fs) _ _ (other.header (codes "plays") fs)
      (λ h. then p more (repeat mark_at [] h.2 p) (repeat mark_at [] h.2 (behind p more)) _ (repeat_keeps mark_at more mark h.2 [] p) (λ ms q. here q more (Plays h.0 h.1 ms)))

  cover : (fs : List (List ℕ)) → Steady (cover_from fs)
  unfolding cover_from
  cover fs p =
      within p more (header_of (codes "cover") fs) _ _ (other.header (codes "cover") fs)
      (λ h. then p more (repeat row_at [] h.2 p) (repeat row_at [] h.2 (behind p more)) _ (repeat_keeps row_at more row h.2 [] p) (λ ls q. here q more (Cover h.0 h.1 ls)))

  water : (fs : List (List ℕ)) → Steady (water_from fs)
  unfolding water_from
  water fs p = within p more (water_of fs) _ _ (other.water fs) (λ f. here p more f)

  fact_then : (fs : List (List ℕ)) → Steady (fact_from fs)
  fact_then fs p =
      let at = behind p more in
      either p more (has_word 0 (codes "plays") fs) (plays_from fs p) _ (plays_from fs at) _ (plays fs p)
      (either p more (has_word 0 (codes "cover") fs) (cover_from fs p) _ (cover_from fs at) _ (cover fs p)
      (either p more (has_word 0 (codes "water") fs) (water_from fs p) _ (water_from fs at) _ (water fs p) (refused p more 3 (λ e. omega (arith, e)))))

  fact : Steady fact_at
  unfolding fact_at
  fact p = then p more (line_at p) (line_at (behind p more)) (λ l. fact_from (fields l.0) l.1) (one_line p more) (λ l q. fact_then (fields l) q)

  -- ---- caps

  cap_then : (fs : List (List ℕ)) → Steady (cap_from fs)
  unfolding cap_from
  cap_then fs p =
      within p more (cap_head_of fs) _ _ (other.cap fs)
      (λ c. then p more (repeat (λ done q. fact_at q) [] c.2 p) (repeat (λ done q. fact_at q) [] c.2 (behind p more)) _ (repeat_keeps (λ done q. fact_at q) more (λ done q. fact q) c.2 [] p)
      (λ proof q. here q more (record { l = c.0; v = c.1; proof = proof })))

  cap : Steady cap_at
  unfolding cap_at
  cap p = then p more (line_at p) (line_at (behind p more)) (λ l. cap_from (fields l.0) l.1) (one_line p more) (λ l q. cap_then (fields l) q)

  -- ---- the tree

  open_base : (fs : List (List ℕ)) → Steady (open_from fs)
  unfolding open_from
  open_base fs p = within p more (shaped_as (codes "open") 1 1 fs) _ _ (other.shape (codes "open") 1 1 fs) (λ s. here p more None)

  closed_base : (fs : List (List ℕ)) → Steady (closed_from fs)
  unfolding closed_from
  closed_base fs p = then p more (fact_from fs p) (fact_from fs (behind p more)) _ (fact_then fs p) (λ f q. here q more (Some f))

  base_then : (fs : List (List ℕ)) → Steady (base_from fs)
  base_then fs p =
      either p more (has_word 0 (codes "open") fs) (open_from fs p) (closed_from fs p) (open_from fs (behind p more)) (closed_from fs (behind p more)) (open_base fs p) (closed_base fs p)

  base : Steady base_at
  unfolding base_at
  base p = then p more (line_at p) (line_at (behind p more)) (λ l. base_from (fields l.0) l.1) (one_line p more) (λ l q. base_then (fields l) q)

  leaf : (fs : List (List ℕ)) → Steady (leaf_from fs)
  unfolding leaf_from
  leaf fs p = then p more (base_from fs p) (base_from fs (behind p more)) _ (base_then fs p) (λ f q. here q more (leaf_of f))

  split : (part : Place → Read Tree) → Steady part → (fs : List (List ℕ)) → Steady (split_from part fs)
  unfolding split_from
  split part steady fs p =
      within p more (split_of fs) _ _ (other.splits fs)
      (λ s. then p more (base_at p) (base_at (behind p more)) _ (base p)
      (λ b q. then q more (repeat (λ done u. part u) [] s.1 q) (repeat (λ done u. part u) [] s.1 (behind q more)) _ (repeat_keeps (λ done u. part u) more (λ done u. steady u) s.1 [] q)
      (λ parts u. here u more (Split s.0 b parts))))

  deep : (fs : List (List ℕ)) → Steady (deep_from fs)
  unfolding deep_from
  deep fs p = within p more (split_of fs) _ _ (other.splits fs) (λ s. refused p more 8 (λ e. omega (arith, e)))

  node : (left : ℕ) → Steady (node_at left)
  unfolding node_at
  node zero p =
      then p more (line_at p) (line_at (behind p more)) _ (one_line p more)
      (λ l q. either q more (has_word 0 (codes "split") (fields l)) (deep_from (fields l) q) (leaf_from (fields l) q) (deep_from (fields l) (behind q more)) (leaf_from (fields l) (behind q more))
      (deep (fields l) q) (leaf (fields l) q))
  node (suc left) p =
      then p more (line_at p) (line_at (behind p more)) _ (one_line p more)
      (λ l q. either q more (has_word 0 (codes "split") (fields l)) (split_from (node_at left) (fields l) q) (leaf_from (fields l) q) (split_from (node_at left) (fields l) (behind q more))
      (leaf_from (fields l) (behind q more))
      (split (node_at left) (node left) (fields l) q) (leaf (fields l) q))

  -- ---- single lines

  fraction : (word : List ℕ) → Steady (fraction_at word)
  unfolding fraction_at
  fraction word p = line_of (fraction_of word) (other.fraction word) p more

  verdict : Steady verdict_at
  unfolding verdict_at
  verdict p = line_of verdict_of other.verdict p more

  word_line : (word : List ℕ) → Steady (word_line_at word)
  unfolding word_line_at
  word_line word p =
      then p more (line_at p) (line_at (behind p more)) _ (one_line p more)
      (λ l q. within q more (shaped_as word 1 1 (fields l)) _ _ (other.shape word 1 1 (fields l)) (λ s. here q more tt))

  first : (text : List ℕ) → Steady (first_at text)
  unfolding first_at
  first text p =
      then p more (line_at p) (line_at (behind p more)) _ (one_line p more)
      (λ l q. either q more (bytes_eq l text) (Ok (tt, q)) (Err (record { line = q.line; reason = 1 })) (Ok (tt, behind q more)) (Err (record { line = q.line; reason = 1 })) (here q more tt)
      (refused q more 1 (λ e. omega (arith, e))))

  head : Steady head_at
  unfolding head_at
  head p =
      then p more (first_at (codes "patrol-report 1") p) (first_at (codes "patrol-report 1") (behind p more)) _ (first (codes "patrol-report 1") p)
      (λ x q. then q more (claim_at q) (claim_at (behind q more)) _ (claim q)
      (λ c s. then s more (fraction_at (codes "value") s) (fraction_at (codes "value") (behind s more)) _ (fraction (codes "value") s) (λ v u. here u more (c, v))))

  -- ---- caps, as long as lines begin with the word

  -- a cap takes a byte at least
  cap_takes : (p q : Place) (c : Cap) → cap_at p ≡ Ok (c, q) → suc (length q.rest) ≤ length p.rest
  unfolding cap_at
  cap_takes p q c e = by_line (line_at p) (line_at (behind p more)) (line_keeps p more) e
    where
      by_rest : (s : Place) (fs : List (List ℕ)) (r later : Read Cap) → Keeps s more r later → r ≡ Ok (c, q) → suc (length s.rest) ≤ length p.rest → suc (length q.rest) ≤ length p.rest
      by_rest s fs (Ok y) later h e low =
          let same : length y.1.rest ≡ length q.rest = ap (λ (z : Cap × Place). length z.1.rest) (let k : y ≡ (c, q) = cc in k) in
          omega (arith, h.1.1.1, same, low)
      by_rest s fs (Err f) later h e low = absurd cc

      by_line : (r later : Read (List ℕ)) → LineKeeps p more r later → (r >>= λ l. cap_from (fields l.0) l.1) ≡ Ok (c, q) → suc (length q.rest) ≤ length p.rest
      by_line (Ok y) later h e = by_rest y.1 (fields y.0) (cap_from (fields y.0) y.1) (cap_from (fields y.0) (behind y.1 more)) (cap_then (fields y.0) y.1) e h.1.1
      by_line (Err f) later h e = absurd cc

  -- what follows the caps: reads a line at least, so where none is left its fault is told
  abbrev ReadsLine : {B : Type 0} → (List Cap × Place → Read B) → Type 0
  ReadsLine k = (cs : List Cap) (q : Place) → Late (q.line + 1) (k (cs, q))

  abbrev WantsLine : {B : Type 0} → (List Cap × Place → Read B) → Type 0
  WantsLine {B = B} k = (cs : List Cap) (q : Place) → split_once 10 q.rest ≡ None → (later : Read B) → Late (q.line + 1) later → Keeps q more (k (cs, q)) later

  abbrev Follows : {B : Type 0} → (List Cap × Place → Read B) → Type 0
  Follows k = (cs : List Cap) (q : Place) → Keeps q more (k (cs, q)) (k (cs, behind q more))

  empty : (bs : List ℕ) → length bs ≤ 0 → split_once 10 bs ≡ None
  empty [] h = refl
  empty (b ∷ bs) h = absurd (omega (arith, h))

  cap_late : (p : Place) → Late (p.line + 1) (cap_at p)
  unfolding cap_at
  cap_late p = late_then (p.line + 1) (line_at p) (λ l. cap_from (fields l.0) l.1) (line_late p) (λ l. (cap_then (fields l.0) l.1).0)

  -- one cap, and those that follow it
  late_caps : {A B C : Type 0} (n : ℕ) (r : Read A) (f : A × Place → Read B) (k : B × Place → Read C) → Late n r → ((y : A × Place) → Late (y.1.line + 1) (f y >>= k)) → Late n ((r >>= f) >>= k)
  late_caps n (Ok y) f k h next = late_from n (y.1.line + 1) (f y >>= k) (omega (arith, h)) (next y)
  late_caps n (Err f) g k h next = h

  caps_late : {B : Type 0} (k : List Cap × Place → Read B) → ReadsLine k → (n : ℕ) (done : List Cap) (p : Place) → Late (p.line + 1) (caps_at done n p >>= k)
  unfolding caps_at
  caps_late k reads zero done p = reads done p
  caps_late k reads (suc n) done p = by_word (λ (cs : List Cap) (q : Place). caps_late k reads n cs q) (line_begins (codes "cap") (next_line p))
    where
      by_word : ((cs : List Cap) (q : Place) → Late (q.line + 1) (caps_at cs n q >>= k)) → (b : Bool)
          → Late (p.line + 1) (cond b (cap_at p >>= λ c. caps_at (done ++ c.0 ∷ []) n c.1) (Ok (done, p)) >>= k)
      by_word again true = late_caps (p.line + 1) (cap_at p) (λ c. caps_at (done ++ c.0 ∷ []) n c.1) k (cap_late p) (λ c. again (done ++ c.0 ∷ []) c.1)
      by_word again false = reads done p

  -- caps and what follows them, with so many lines at most
  abbrev CapsKeep : {B : Type 0} → (List Cap × Place → Read B) → ℕ → ℕ → Type 0
  CapsKeep k n m = (done : List Cap) (p : Place) → length p.rest ≤ n → length (p.rest ++ more) ≤ m → Keeps p more (caps_at done n p >>= k) (caps_at done m (behind p more) >>= k)

  -- one cap, and those that follow it
  cap_and : {B : Type 0} (k : List Cap × Place → Read B) → ReadsLine k → (n m : ℕ) → CapsKeep k n m → (done : List Cap) (p : Place) → length p.rest ≤ suc n → length (p.rest ++ more) ≤ suc m
      → (r later : Read Cap) → cap_at p ≡ r → Keeps p more r later
      → Keeps p more ((r >>= λ c. caps_at (done ++ c.0 ∷ []) n c.1) >>= k) ((later >>= λ c. caps_at (done ++ c.0 ∷ []) m c.1) >>= k)
  cap_and k reads n m again done p low high (Ok y) later e h =
      let fewer = cap_takes p y.1 y.0 e in
      let rest = done ++ y.0 ∷ [] in
      let next = again rest y.1 (omega (arith, fewer, low)) (omega (arith, fewer, high, length-append p.rest more, length-append y.1.rest more)) in
      subst (λ l. Keeps p more (caps_at rest n y.1 >>= k) ((l >>= λ c. caps_at (done ++ c.0 ∷ []) m c.1) >>= k)) (sym h.1.0)
      (keeps_from p y.1 more (caps_at rest n y.1 >>= k) (caps_at rest m (behind y.1 more) >>= k) h.1.1 h.0 next)
  cap_and k reads n m again done p low high (Err f) later e h =
      let more_caps : Cap × Place → Read (List Cap) = λ c. caps_at (done ++ c.0 ∷ []) m c.1 in (
        h.0,
        fault_then p f (Late (lines_to p + 1) later) (Late (lines_to p + 1) ((later >>= more_caps) >>= k)) (later ≡ Err f) (((later >>= more_caps) >>= k) ≡ Err f)
            (λ x. late_caps (lines_to p + 1) later more_caps k x (λ c. caps_late k reads m (done ++ c.0 ∷ []) c.1))
            (λ x. ap (λ l. (l >>= more_caps) >>= k) x) h.1,
      )

  -- where a line is left
  caps_step : {B : Type 0} (k : List Cap × Place → Read B) → ReadsLine k → WantsLine k → Follows k → (n m : ℕ) → CapsKeep k n m → CapsKeep k (suc n) (suc m)
  unfolding caps_at
  caps_step k reads wants follows n m again done p low high = by_line (split_once 10 p.rest) refl (is_cut p.rest more)
    where
      found : Bool → Read (List Cap)
      found b = cond b (cap_at p >>= λ c. caps_at (done ++ c.0 ∷ []) n c.1) (Ok (done, p))

      found_later : Bool → Read (List Cap)
      found_later b = cond b (cap_at (behind p more) >>= λ c. caps_at (done ++ c.0 ∷ []) m c.1) (Ok (done, behind p more))

      by_word : (b : Bool) → Keeps p more (found b >>= k) (found_later b >>= k)
      by_word true = cap_and k reads n m again done p low high (cap_at p) (cap_at (behind p more)) refl (cap p)
      by_word false = follows done p

      by_line : (o : Option Parts) → split_once 10 p.rest ≡ o → IsCut p.rest more o
          → Keeps p more (found (line_begins (codes "cap") (option_map (λ x. x.0) o)) >>= k) (found_later (line_begins (codes "cap") (option_map (λ x. x.0) (split_once 10 (p.rest ++ more)))) >>= k)
      by_line None e h = wants done p e (caps_at done (suc m) (behind p more) >>= k) (caps_late k reads (suc m) done (behind p more))
      by_line (Some parts) e h = rw h.0 (by_word (line_begins (codes "cap") (Some parts.0)))

  caps : {B : Type 0} (k : List Cap × Place → Read B) → ReadsLine k → WantsLine k → Follows k → (n m : ℕ) → CapsKeep k n m
  unfolding caps_at
  caps k reads wants follows zero m done p low high = wants done p (empty p.rest low) (caps_at done m (behind p more) >>= k) (caps_late k reads m done (behind p more))
  caps k reads wants follows (suc n) zero done p low high =
      let none : split_once 10 p.rest ≡ None = empty p.rest (omega (arith, high, length-append p.rest more)) in
      subst (λ o. Keeps p more (cond (line_begins (codes "cap") (option_map (λ x. x.0) o)) (cap_at p >>= λ c. caps_at (done ++ c.0 ∷ []) n c.1) (Ok (done, p)) >>= k) (Ok (done, behind p more) >>= k)) (sym none)
      (wants done p none (Ok (done, behind p more) >>= k) (reads done (behind p more)))
  caps k reads wants follows (suc n) (suc m) done p low high = caps_step k reads wants follows n m (caps k reads wants follows n m) done p low high

  -- ---- the report

  -- what follows the caps
  abbrev behind_caps : List Cap × Place → Read (List Cap × Tree)
  behind_caps cs = node_at 8 cs.1 >>= λ t. Ok ((cs.0, t.0), t.1)

  line_missing : (p : Place) → split_once 10 p.rest ≡ None → IsCut p.rest more (split_once 10 p.rest) → (line_at p ≡ Err (record { line = p.line + 1; reason = 2 })) × (newlines p.rest ≡ 0)
  unfolding line_at
  line_missing p e h = (ap (line_cut (p.line + 1)) e, subst (IsCut p.rest more) e h)

  node_missing : (p : Place) → line_at p ≡ Err (record { line = p.line + 1; reason = 2 }) → node_at 8 p ≡ Err (record { line = p.line + 1; reason = 2 })
  unfolding node_at
  node_missing p e = rw e refl

  node_late : (p : Place) → Late (p.line + 1) (node_at 8 p)
  unfolding node_at
  node_late p =
      late_then (p.line + 1) (line_at p) _ (line_late p)
      (λ l. (either l.1 more (has_word 0 (codes "split") (fields l.0)) (split_from (node_at 7) (fields l.0) l.1) (leaf_from (fields l.0) l.1) (split_from (node_at 7) (fields l.0) (behind l.1 more))
      (leaf_from (fields l.0) (behind l.1 more))
      (split (node_at 7) (node 7) (fields l.0) l.1) (leaf (fields l.0) l.1)).0)

  reads_line : ReadsLine behind_caps
  reads_line cs q = late_then (q.line + 1) (node_at 8 q) (λ t. Ok ((cs, t.0), t.1)) (node_late q) (λ t. omega arith)

  wants_line : WantsLine behind_caps
  wants_line cs q e later late =
      let missing = line_missing q e (is_cut q.rest more) in
      let last : q.line + 1 ≡ lines_to q + 1 = omega (arith, missing.1) in
      rw (node_missing q missing.0) (omega arith, inl (refl, (last, subst (λ (n : ℕ). Late n later) last late)))

  proof : Steady proof_at
  unfolding proof_at
  proof p =
      caps behind_caps reads_line wants_line (λ cs q. then q more (node_at 8 q) (node_at 8 (behind q more)) _ (node 8 q) (λ t s. here s more (cs, t)))
      (length p.rest) (length (p.rest ++ more)) [] p (omega arith) (omega arith)

  ended_at : (bs : List ℕ) (line : ℕ) → Ends (record { rest = bs; line = line }) more (ended (record { rest = bs; line = line })) (ended (record { rest = bs ++ more; line = line }))
  ended_at [] line = let z : line + 0 ≡ line = omega arith in (tt, rw z refl)
  ended_at (b ∷ bs) line =
      let some : (length (b ∷ bs) == 0) ≡ false = filled (length (b ∷ bs)) (omega arith) in
      let more_some : (length ((b ∷ bs) ++ more) == 0) ≡ false = filled (length ((b ∷ bs) ++ more)) (omega arith) in
      rw (some, more_some) (omega arith, inr ((λ e. omega (arith, e)), ((λ other. absurd (other refl)), refl)))
    where
      filled : (n : ℕ) → 1 ≤ n → (n == 0) ≡ false
      filled n h = grind (arith, nat_tests)

  last_line : (p : Place) → Ends p more (end_of p) (end_of (behind p more))
  unfolding end_of
  last_line p = then_ends p more (word_line_at (codes "end") p) (word_line_at (codes "end") (behind p more)) (λ e. ended e.1) (word_line (codes "end") p) (λ x q. ended_at q.rest q.line)

  tail : (p : Place) → Ends p more (tail_of p) (tail_of (behind p more))
  unfolding tail_of
  tail p =
      then_ends p more (fraction_at (codes "upper") p) (fraction_at (codes "upper") (behind p more)) _ (fraction (codes "upper") p)
      (λ u q. then_ends q more (verdict_at q) (verdict_at (behind q more)) _ (verdict q)
      (λ v s. ends_as s more (end_of s) (end_of (behind s more)) (λ e. (u, v)) (last_line s)))

  pub report : (bytes : List ℕ) → Ends (start bytes) more (report_of bytes) (report_of (bytes ++ more))
  unfolding report_of
  report bytes =
      then_ends (start bytes) more (head_at (start bytes)) (head_at (start (bytes ++ more))) _ (head (start bytes))
      (λ h q. then_ends q more (proof_at q) (proof_at (behind q more)) _ (proof q)
      (λ t s. ends_as s more (tail_of s) (tail_of (behind s more)) (λ e. record { tickets = h.0; value = h.1; caps = t.0; tree = t.1; upper = e.0; ending = e.1 }) (tail s)))
