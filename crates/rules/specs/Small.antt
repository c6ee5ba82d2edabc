-- Document 02, A4: "Small shares need no nod." What a group of rule 2 may rely on, and what no group loses by it.
use Rattle.std.specs.Prelude.{◌≡◌, true, false, ◌≢◌, ℕ, ◌≤◌, ◌<◌}
use Rattle.std.proofs.Math.Option.{some}
use Rattle.format.specs.Layout.{user_count, last_version, equal_rule, use_rule, small_share}
use Rattle.rules.specs.Ledger.{Expense, Ledger, member, in_group, absent, at}
use Rattle.rules.specs.Balance.{valid, lines_of, totals_of}
use Rattle.rules.specs.Pending.{pending}
use Rattle.rules.specs.Action.{put_in, acknowledge, absorb, fields_fit}
use Rattle.rules.specs.Step.{ledger_after}
use Rattle.rules.specs.Refusal.{answer}

-- All shares of an expense are of 500 cents or fewer.
abbrev pub AllSmall : Expense → Type 0
AllSmall e = (u : ℕ) → u < user_count → e.shares u ≤ small_share

-- A ledger on replica r, with this home table.
pub record SmallShares (home : ℕ → ℕ) (r : ℕ) (l : Ledger) : Type 0 where
  -- In a group of rule 2 an expense whose shares are all small is valid as soon as it stands in the group, and so with the action that puts it there;
  pub stands : (g : ℕ) (e : Expense) → l.rule g ≡ use_rule → e.group ≡ g → e.deleted ≡ false → AllSmall e → valid (l.rule g) g e ≡ true
  pub put : (a g c : ℕ) → answer home r (some (put_in a g c)) l ≡ 0 → l.rule g ≡ use_rule → (at l c).deleted ≡ false → AllSmall (at l c) → valid (l.rule g) g (at (ledger_after (put_in a g c) l) c) ≡ true
  -- one with a larger share that is not acknowledged is not, under any rule.
  pub waits : (k g u : ℕ) (e : Expense) → u < user_count → small_share < e.shares u → e.acknowledged u ≡ false → valid k g e ≡ false
  -- What is valid by rule 1's test is valid by rule 2's, as by any.
  pub stays : (k g : ℕ) (e : Expense) → valid equal_rule g e ≡ true → valid k g e ≡ true
  -- "No bit is set by this, so kinds 9 and 10 read the stored bit as before": a member may acknowledge a share without a bit, and its payer absorb that of one who
  -- left, whatever the share and the rule.
  pub nods : (a c : ℕ) → fields_fit (acknowledge a c) ≡ true → home a ≡ r → absent l c ≡ false → (at l c).deleted ≡ false → in_group (at l c) ≡ true
      → member l (at l c).group a ≡ true → 0 < (at l c).shares a → (at l c).acknowledged a ≡ false → answer home r (some (acknowledge a c)) l ≡ 0
  pub absorbs : (a o c : ℕ) → fields_fit (absorb a o c) ≡ true → home a ≡ r → o ≢ a → absent l c ≡ false → (at l c).deleted ≡ false → (at l c).payer ≡ a → in_group (at l c) ≡ true
      → member l (at l c).group a ≡ true → member l (at l c).group o ≡ false → 0 < (at l c).shares o → (at l c).acknowledged o ≡ false
      → (at l c).version ≢ last_version → answer home r (some (absorb a o c)) l ≡ 0
  -- To acknowledge a small share in a group of rule 2 changes no figure, of this group or another, and nothing that is pending.
  pub idle : (a c : ℕ) → answer home r (some (acknowledge a c)) l ≡ 0 → l.rule (at l c).group ≡ use_rule → (at l c).shares a ≤ small_share
      → (g : ℕ) → (lines_of (ledger_after (acknowledge a c) l) g ≡ lines_of l g) × (totals_of (ledger_after (acknowledge a c) l) g ≡ totals_of l g)
      × ((u : ℕ) → pending (ledger_after (acknowledge a c) l) g u ≡ pending l g u)
