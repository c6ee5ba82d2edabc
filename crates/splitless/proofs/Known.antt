-- A ledger is known by its rules, its days and what it shows, and an image by its home table and these.
use mathlib.Core.Path.{◌≡◌, refl, sym, ap, ◌∙◌}
use mathlib.Core.Option.{Option, none, some, map, some-ne-none, some-injective}
use Prim.Native.Nat.{ℕ}
use Rattle.format.specs.Layout.{Version}
use Rattle.format.specs.Bytes.{Bytes}
use Rattle.rules.specs.Ledger.{Expense, Ledger}
use Rattle.images.specs.Image.{encode_in, decode_in, replica_of, home_of, CheckedIn}
use Rattle.rules.proofs.Basics.{Less, less?, less, more}
use Rattle.rules.proofs.Theory.{ledger_path}
use Rattle.images.proofs.Range.{Plain, PlainOption, Encodable}
use Rattle.images.proofs.Round.{encode_decode}
use Rattle.images.proofs.Checked.{decoded_holds}
use Rattle.splitless.specs.Module as M
use Rattle.splitless.specs.Shown.{shown_expense, show, shown_in, SameDay}
use Rattle.splitless.proofs.Facts.{numbers_at, flags_at}
use Rattle.splitless.proofs.Showing.{shown_counter}
use Rattle.splitless.proofs.Merging.{id_same}

-- A ledger is known by what it shows, so a step that shows the module's effect leaves no choice.
module _ {v : Version} (c : ℕ) (e f : Expense) (pe : Plain v e) (pf : Plain v f) (p : shown_expense c e ≡ shown_expense c f) (d : e.version ≡ f.version → e.day ≡ f.day) where
  acks_known : (u : ℕ) → Less u 8 → e.acknowledged u ≡ f.acknowledged u
  acks_known u (less k _) = sym (flags_at e.acknowledged u k) ∙ ap (λ x. x.acknowledged_shares u) p ∙ flags_at f.acknowledged u k
  acks_known u (more k _) = pe.acked8 u k ∙ sym (pf.acked8 u k)

  shares_known : (u : ℕ) → Less u 8 → e.shares u ≡ f.shares u
  shares_known u (less k _) = sym (numbers_at e.shares u k) ∙ ap (λ x. x.shares u) p ∙ numbers_at f.shares u k
  shares_known u (more k _) = pe.shares8 u k ∙ sym (pf.shares8 u k)

  expense_known : e ≡ f
  expense_known = λ i. record {
    payer = (p i).payer;
    group = id_same e.group f.group (ap (λ x. x.group) p) i;
    deleted = (p i).deleted;
    acknowledged = λ u. acks_known u (less? u 8) i;
    version = (p i).version;
    shares = λ u. shares_known u (less? u 8) i;
    day = d (ap (λ x. x.version) p) i;
  }

pub show_injective : {v : Version} (r w : ℕ) (l m : Ledger) → Encodable v l → Encodable v m → ((g : ℕ) → l.rule g ≡ m.rule g) → ((c : ℕ) → SameDay (l.expense c) (m.expense c)) → show r l ≡ show w m → l ≡ m
unfolding show
show_injective {v} r w l m el em ru dy p = ledger_path l m (λ g u. counter g u (less? u 8)) ru (λ c. expense c (l.expense c) (m.expense c) (el.plain c) (em.plain c) (dy c) (ap (λ r. r.recorded_expenses c) p))
  where
    counter : (g u : ℕ) → Less u 8 → l.counter g u ≡ m.counter g u
    counter g u (less k _) = sym (shown_counter r l g u k) ∙ ap (λ r. (M.group r g).members u) p ∙ shown_counter w m g u k
    counter g u (more k _) = el.users8 g u k ∙ sym (em.users8 g u k)

    expense : (c : ℕ) (o q : Option Expense) → PlainOption v o → PlainOption v q → SameDay o q → map (shown_expense c) o ≡ map (shown_expense c) q → o ≡ q
    expense c none none po pq dy h = refl
    expense c none (some f) po pq dy h = absurd (some-ne-none (shown_expense c f) (sym h))
    expense c (some e) none po pq dy h = absurd (some-ne-none (shown_expense c e) h)
    expense c (some e) (some f) po pq dy h = ap some (expense_known c e f po pq (some-injective (shown_expense c e) (shown_expense c f) h) (dy e f refl refl))

-- An image is known by its home table and these.
pub image_known : {v : Version} (b d : Bytes) → CheckedIn v b → CheckedIn v d → home_of b ≡ home_of d → ((g : ℕ) → (decode_in v b).rule g ≡ (decode_in v d).rule g) → ((c : ℕ) → SameDay ((decode_in v b).expense c) ((decode_in v d).expense c)) → shown_in v b ≡ shown_in v d → b ≡ d
unfolding shown_in show
image_known {v} b d okb okd h ru dy p =
    let n : replica_of b ≡ replica_of d = ap (λ x. x.id) p in
    let l : decode_in v b ≡ decode_in v d = show_injective (replica_of b) (replica_of d) (decode_in v b) (decode_in v d) (decoded_holds b okb).fit (decoded_holds d okd).fit ru dy p in
    sym (encode_decode b okb) ∙ (λ i. encode_in v (h i) (n i) (l i)) ∙ encode_decode d okd
