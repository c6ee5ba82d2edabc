-- The balances of one group from its report, and of the first groups, one behind the other, over plain variables. Rests on figures (a report is the rules' statement).
use Rattle.std.proofs.Common.{◌≡◌, refl, sym, ap, ◌∙◌, Bool, true, false, List, ◌++◌, append-nil, ℕ, suc, ◌+◌, ◌*◌, ◌^◌, ◌<◌, arith, add-one, ℤ, pos, length, get_or, set, replicate, take, drop, drop_of_length-le, take_at, drop-drop, w64, to_z, of_z, to_z-of_z}
use lib.Seq.{paste, paste-suc, drop-append-add}
use lib.Signed.{mag}
use borrow.Author.Rules.{sfits_of}
use Rattle.format.specs.Layout.{group_count, balances_size}
use Rattle.format.specs.Bytes.{Bytes}
use Rattle.format.specs.declared.GroupRecord.{GroupRecord}
use Rattle.rules.specs.Ledger.{Ledger, nobody, group_absent}
use Rattle.rules.specs.Balance.{balances_in}
use Rattle.rules.specs.Together.{balances_of, balances_to, all_balances}
use Rattle.images.specs.Meaning.{counters_of, group_record_at}
use Rattle.images.specs.Image.{decode}
use Rattle.rules.proofs.Together.{balances_long, present_balances, absent_balances}
use Rattle.balance.specs.declared.Sums.{Sums}
use Rattle.balance.specs.Sums.{sums_of}
use Rattle.kinds.proofs.Seen.{counters_of_lem}
use Rattle.figures.specs.declared.Report.{Report}
use Rattle.figures.specs.Figures.{report_from}
use Rattle.figures.proofs.Made.{report_is}

-- The counters as code has them.
module _ (b : Bytes) (g : ℕ) (c : GroupRecord) (ec : c ≡ group_record_at (decode b) g) (t : Bool) (et : t ≡ nobody (counters_of c)) where
  absent_is : group_absent (decode b) g ≡ t
  absent_is = sym (et ∙ ap nobody (counters_of_lem b g c ec))

  pub absent_eight : t ≡ true → replicate 8 (pos 0) ≡ balances_of (decode b) g
  absent_eight x = sym (absent_balances (decode b) g (absent_is ∙ x))

  pub present_eight : (s : Sums) (r : Report) (eight : List ℤ) → s ≡ sums_of (decode b) ((decode b).rule g) g → r ≡ report_from c.rule c.counters s → eight ≡ balances_in r.lines → t ≡ false
      → eight ≡ balances_of (decode b) g
  present_eight s r eight es er ee x =
      let rule : c.rule ≡ (decode b).rule g = ap (λ y. y.rule) ec in
      ee ∙ ap (λ y. balances_in y.lines) (er ∙ report_is (decode b) g c.rule c.counters s rule (ap (λ y. y.counters) ec) (es ∙ ap (λ k. sums_of (decode b) k g) (sym rule)))
      ∙ sym (present_balances (decode b) g (absent_is ∙ x))

-- One number of eight, read back from its bits, at its place.
pub number_next : (bs : List ℤ) (at : ℕ) (eight : List ℤ) (u : ℕ) (ds : List ℤ) {k : ℕ} → at + u < length bs → u < length eight → mag (get_or eight u (pos 0)) < 2 ^ 63 → ds ≡ paste bs at eight u → k ≡ at + u
    → set ds k (to_z w64 (of_z w64 (get_or eight u (pos 0)))) ≡ paste bs at eight (u + 1)
number_next bs at eight u ds h k m e z = rw (add-one, z, e, to_z-of_z (sfits_of {w = w64} {z = get_or eight u (pos 0)} m)) (paste-suc bs at eight u (pos 0) h k)

-- What stands in the list after n groups: their balances, and behind them what stood there.
abbrev pub Written : (before : List ℤ) → Ledger → (n : ℕ) → (now : List ℤ) → Type 0
Written bs l n cs = cs ≡ balances_to n l ++ drop (8 * n) bs

pub written_none : (bs : List ℤ) (l : Ledger) → Written bs l 0 bs
unfolding balances_to
written_none bs l = refl

-- Group n's eight balances written to their places.
pub written_next : (bs : List ℤ) (l : Ledger) (n : ℕ) (cs eight ds : List ℤ) → Written bs l n cs → eight ≡ balances_of l n → ds ≡ paste cs (8 * n) eight 8 → Written bs l (n + 1) ds
unfolding balances_to
written_next bs l n cs eight ds w e p = rw add-one (p ∙ ap (λ x. paste cs (8 * n) x 8) e ∙ split)
  where
    long : length (balances_to n l) ≡ 8 * n
    long = balances_long n l

    behind : drop (8 * n + 8) cs ≡ drop (8 * suc n) bs
    behind =
        ap (λ k. drop (k + 8) cs) (sym long) ∙ ap (drop (length (balances_to n l) + 8)) w ∙ drop-append-add (balances_to n l) (drop (8 * n) bs) 8 ∙ drop-drop 8 (8 * n) bs
        ∙ (let z : 8 * n + 8 ≡ 8 * suc n = omega arith in ap (λ k. drop k bs) z)

    split : paste cs (8 * n) (balances_of l n) 8 ≡ balances_to n l ++ balances_of l n ++ drop (8 * suc n) bs
    split =
        ap (λ x. x ++ balances_of l n ++ drop (8 * n + 8) cs) (ap (take (8 * n)) w ∙ take_at (balances_to n l) (drop (8 * n) bs) (8 * n) long)
        ∙ ap (λ x. balances_to n l ++ balances_of l n ++ x) behind

pub written_all : (bs : List ℤ) (l : Ledger) (n : ℕ) (cs : List ℤ) → n ≡ group_count → length bs ≡ balances_size → Written bs l n cs → cs ≡ all_balances l
written_all bs l n cs z k w =
    w ∙ ap (λ m. balances_to m l ++ drop (8 * m) bs) z ∙ ap (λ x. all_balances l ++ x) (drop_of_length-le bs {i = balances_size} (omega arith)) ∙ append-nil (all_balances l)
