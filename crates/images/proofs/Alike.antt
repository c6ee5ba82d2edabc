-- Raising has no part in what a van does (specs, Raised): on an image and on the raised one each call answers and leaves the same. It rests on what each call does at the
-- image of a ledger (Encoded), and on the raised image being that of the same ledger (Raise).
use mathlib.Core.Path.{◌≡◌, refl, sym, ap, ◌∙◌, subst}
use mathlib.Core.Bool.{cond}
use mathlib.Core.Option.{Option, none, some}
use mathlib.Core.Logic.{◌≢◌}
use mathlib.Core.List.{List}
use Prim.Native.Nat.{ℕ, ◌<◌}
use lib.Dec.{eqb}
use lib.IntN.{ℤ}
use lib.ListN.{length}
use Rattle.format.specs.Layout.{Version, v1, v2, v3, image_size_in, replica_count}
use Rattle.format.specs.Bytes.{Bytes, kind_in}
use Rattle.format.proofs.Laws.{same_size}
use Rattle.format.specs.declared.Line.{Line}
use Rattle.rules.specs.Ledger.{Ledger}
use Rattle.rules.specs.Action.{Action}
use Rattle.rules.specs.Step.{ledger_after}
use Rattle.rules.specs.Refusal.{answer}
use Rattle.rules.specs.Merge.{merge_ledger}
use Rattle.images.specs.Image.{Homes, encode_in, decode_in, replica_of, home_of, CheckedIn}
use Rattle.images.specs.Record.{record_fits_in, read_action_in}
use Rattle.images.specs.Calls.{act_answer_in, acted_by_in, act_image_in, merge_images_answer_in, merged_image_in, merge_images_in, statement_answer_in, statement_totals_in, statement_lines_in, payments_answer_in, payments_cents_in, balances_answer_in, balances_left_in, raised_in}
use Rattle.images.specs.Raised.{RaisedAlike}
use Rattle.rules.proofs.Basics.{Same, same, other, same?}
use Rattle.rules.proofs.Sound.{eqb_other}
use Rattle.images.proofs.Round.{long, encode_decode}
use Rattle.images.proofs.Encoded.{Holds, act_answer_lem, acted_is, act_image_lem}
use Rattle.images.proofs.Checked.{NarrowOption, read_narrow, replica_below, homes_homed, decoded_holds, act_holds, merged_holds}
use Rattle.images.proofs.Raise.{later, later_holds, raised_is, raised_checked, raised_ledger, raised_replica, raised_home}

-- A record is the same action in each version, but for what bytes 6 and 7 name: a founding's rule from version 2 on, the day of kinds 4 and 7 from version 3 on.
to_first : (v : Version) (x : Bytes) → kind_in x ≢ 1 → kind_in x ≢ 4 → kind_in x ≢ 7 → read_action_in v x ≡ read_action_in v1 x
unfolding read_action_in record_fits_in
to_first v1 x n f s = refl
to_first v2 x n f s = rw (eqb_other (kind_in x) 1 n)
to_first v3 x n f s = rw (eqb_other (kind_in x) 1 n, eqb_other (kind_in x) 4 f, eqb_other (kind_in x) 7 s)

pub same_action : (w v : Version) (x : Bytes) → kind_in x ≢ 1 → kind_in x ≢ 4 → kind_in x ≢ 7 → read_action_in w x ≡ read_action_in v x
same_action w v x n f s = to_first w x n f s ∙ sym (to_first v x n f s)

-- A ledger that an image of version w can hold, and version v, no older, too.
module _ {w v : Version} (up : later v w ≡ v) (home : ℕ → ℕ) (hm : Homes home) (r : ℕ) (r8 : r < replica_count) (l : Ledger) (h : Holds w home l) where
  above : Holds v home l
  above = subst (λ x. Holds x home l) up (later_holds v w home l h)

  raised_up : raised_in v (encode_in w home r l) ≡ encode_in v home r l
  raised_up = raised_is home hm r r8 l h v ∙ ap (λ x. encode_in x home r l) up

-- An action on its image.
module _ {w v : Version} (up : later v w ≡ v) (home : ℕ → ℕ) (hm : Homes home) (r : ℕ) (r8 : r < replica_count) (l : Ledger) (h : Holds w home l) where
  -- What an accepted action leaves, or the image itself without an action.
  acted_raised : (o : Option Action) → NarrowOption w o → answer home r o l ≡ 0 → raised_in v (acted_by_in w (encode_in w home r l) o) ≡ acted_by_in v (encode_in v home r l) o
  acted_raised none n e = raised_up up home hm r r8 l h
  acted_raised (some a) n e =
      ap (raised_in v) (acted_is home hm r r8 l h a) ∙ raised_up up home hm r r8 (ledger_after a l) (act_holds home r a l n h e)
      ∙ sym (acted_is home hm r r8 l (above up home hm r r8 l h) a)

  image_raised : (x y : Bytes) → read_action_in w x ≡ read_action_in v y → raised_in v (act_image_in w (encode_in w home r l) x) ≡ act_image_in v (encode_in v home r l) y
  image_raised x y e =
      ap (raised_in v) (act_image_lem home hm r r8 l h x) ∙ go (same? (answer home r (read_action_in w x) l) 0)
      ∙ ap (λ o. cond (eqb (answer home r o l) 0) (acted_by_in v (encode_in v home r l) o) (encode_in v home r l)) e ∙ sym (act_image_lem home hm r r8 l (above up home hm r r8 l h) y)
    where
      go : Same (answer home r (read_action_in w x) l) 0
          → raised_in v (cond (eqb (answer home r (read_action_in w x) l) 0) (acted_by_in w (encode_in w home r l) (read_action_in w x)) (encode_in w home r l))
          ≡ cond (eqb (answer home r (read_action_in w x) l) 0) (acted_by_in v (encode_in v home r l) (read_action_in w x)) (encode_in v home r l)
      go (same p q) = rw q (acted_raised (read_action_in w x) (read_narrow w x) p)
      go (other p q) = rw q (raised_up up home hm r r8 l h)

  answer_raised : (x y : Bytes) → read_action_in w x ≡ read_action_in v y → act_answer_in w (encode_in w home r l) x ≡ act_answer_in v (encode_in v home r l) y
  answer_raised x y e = act_answer_lem home hm r r8 l h x ∙ ap (λ o. answer home r o l) e ∙ sym (act_answer_lem home hm r r8 l (above up home hm r r8 l h) y)

module _ {w v : Version} (up : later v w ≡ v) (b : Bytes) (ok : CheckedIn w b) where
  checked_up : CheckedIn v (raised_in v b)
  checked_up = subst (λ x. CheckedIn x (raised_in v b)) up (raised_checked b ok v)

  ledger_up : decode_in v (raised_in v b) ≡ decode_in w b
  ledger_up = sym (ap (λ x. decode_in x (raised_in v b)) up) ∙ raised_ledger b ok v

  encoded_up : raised_in v b ≡ encode_in v (home_of b) (replica_of b) (decode_in w b)
  encoded_up = ap (raised_in v) (sym (encode_decode b ok)) ∙ raised_up up (home_of b) (homes_homed b ok) (replica_of b) (replica_below b ok) (decode_in w b) (decoded_holds b ok)

  acted_alike : (x y : Bytes) → read_action_in w x ≡ read_action_in v y → (act_answer_in w b x ≡ act_answer_in v (raised_in v b) y) × (raised_in v (act_image_in w b x) ≡ act_image_in v (raised_in v b) y)
  acted_alike x y e =
      let hm = homes_homed b ok in
      let r8 = replica_below b ok in
      let h = decoded_holds b ok in
      let own = sym (encode_decode b ok) in (
        ap (λ i. act_answer_in w i x) own ∙ answer_raised up (home_of b) hm (replica_of b) r8 (decode_in w b) h x y e ∙ sym (ap (λ i. act_answer_in v i y) encoded_up),
        ap (λ i. raised_in v (act_image_in w i x)) own ∙ image_raised up (home_of b) hm (replica_of b) r8 (decode_in w b) h x y e ∙ sym (ap (λ i. act_image_in v i y) encoded_up),
      )

  -- A statement, a list and all balances look at the check and at the ledger.
  stated_alike : (g : ℕ) (lines : List Line)
      → (statement_totals_in w b g (length lines) ≡ statement_totals_in v (raised_in v b) g (length lines)) × (statement_lines_in w b g lines ≡ statement_lines_in v (raised_in v b) g lines)
  unfolding statement_totals_in statement_lines_in statement_answer_in
  stated_alike g lines = rw (checked_up.passes, ok.passes, ledger_up) (refl, refl)

  listed_alike : (g : ℕ) (cents : List ℕ)
      → (payments_answer_in w b g (length cents) ≡ payments_answer_in v (raised_in v b) g (length cents)) × (payments_cents_in w b g cents ≡ payments_cents_in v (raised_in v b) g cents)
  unfolding payments_answer_in payments_cents_in
  listed_alike g cents = rw (checked_up.passes, ok.passes, ledger_up) (refl, refl)

  gathered_alike : (balances : List ℤ)
      → (balances_answer_in w b (length balances) ≡ balances_answer_in v (raised_in v b) (length balances)) × (balances_left_in w b balances ≡ balances_left_in v (raised_in v b) balances)
  unfolding balances_answer_in balances_left_in
  gathered_alike balances = rw (checked_up.passes, ok.passes, ledger_up) (refl, refl)

module _ {w v : Version} (up : later v w ≡ v) (b d : Bytes) (okb : CheckedIn w b) (okd : CheckedIn w d) where
  merge_answer_alike : merge_images_answer_in w b d ≡ merge_images_answer_in v (raised_in v b) (raised_in v d)
  unfolding merge_images_answer_in
  merge_answer_alike =
      rw ((checked_up up b okb).passes, (checked_up up d okd).passes, okb.passes, okd.passes, ledger_up up b okb, ledger_up up d okd, raised_home b okb v, raised_home d okd v)

  merged_alike : merge_images_answer_in w b d ≡ 0 → raised_in v (merged_image_in w b d) ≡ merged_image_in v (raised_in v b) (raised_in v d)
  unfolding merged_image_in
  merged_alike e =
      raised_up up (home_of b) (homes_homed b okb) (replica_of b) (replica_below b okb) (merge_ledger (decode_in w b) (decode_in w d)) (merged_holds b d okb okd e)
      ∙ rw (ledger_up up b okb, ledger_up up d okd, raised_home b okb v, raised_replica b okb v)

  merge_image_alike : raised_in v (merge_images_in w b d) ≡ merge_images_in v (raised_in v b) (raised_in v d)
  unfolding merge_images_in
  merge_image_alike =
      go (same? (merge_images_answer_in w b d) 0)
      ∙ ap (λ k. cond (eqb k 0) (merged_image_in v (raised_in v b) (raised_in v d)) (raised_in v b)) merge_answer_alike
    where
      go : Same (merge_images_answer_in w b d) 0
          → raised_in v (cond (eqb (merge_images_answer_in w b d) 0) (merged_image_in w b d) b) ≡ cond (eqb (merge_images_answer_in w b d) 0) (merged_image_in v (raised_in v b) (raised_in v d)) (raised_in v b)
      go (same p q) = rw q (merged_alike p)
      go (other p q) = rw q

-- Every image that passes the check of its version, raised to a version that takes it then.
pub raised_alike : (w v : Version) (b : Bytes) → CheckedIn w b → length (raised_in v b) ≡ image_size_in v → RaisedAlike w v b
raised_alike w v b ok n =
    let up : later v w ≡ v = same_size (later v w) v (sym (long (raised_in v b) (raised_checked b ok v)) ∙ n) in
    record {
      checked = checked_up up b ok;
      ledger = ledger_up up b ok;
      replica = raised_replica b ok v;
      homes = raised_home b ok v;
      acted = acted_alike up b ok;
      merged = λ d okd. (merge_answer_alike up b d ok okd, merge_image_alike up b d ok okd);
      stated = stated_alike up b ok;
      listed = listed_alike up b ok;
      gathered = gathered_alike up b ok;
    }
