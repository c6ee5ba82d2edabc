-- Document 01, 'A history, and what its vans have heard': the calls, the images that stood, and the book of steps heard; with document 02, over the versions of
-- the image and of the library.
-- It rests on the calls on bytes (images, Calls), on the action of a record (Record) and on what is worked out from steps (rules, Heard).
use Rattle.std.specs.Prelude.{Bool, cond, List, [], ◌∷◌, ◌++◌, ℕ, suc, eqb}
use Rattle.std.proofs.Math.Option.{Option, none, some}
use Rattle.format.specs.Layout.{Version}
use Rattle.format.specs.Bytes.{Bytes}
use Rattle.rules.specs.Ledger.{empty}
use Rattle.rules.specs.Action.{Action}
use Rattle.rules.specs.Step.{Given, gives}
use Rattle.rules.specs.Heard.{worked_out}
use Rattle.images.specs.Image.{encode_in}
use Rattle.images.specs.Record.{read_action_in}
use Rattle.images.specs.Calls.{act_answer_in, act_image_in, merge_images_answer_in, merge_images_in, raised_in, raise_answer_in, raise_image_in}

-- "An action names its van": and carries the bytes of its record, whatever they are. "A join names its van and, for the image handed over, the van
-- and the moment at which it stood there: any van, its own too, at the start or after an earlier call."
-- Moment 0 is the start and moment n + 1 is after call n; for a moment that has not come, the start's image is handed over.
-- "A van may raise its image between steps": it names the buffer. "A raised image counts as having stood where the older one did": so a join also names the
-- version to which the image handed over was raised; one that isn't older is handed over as it is.
-- Each call is made with the library of a version, whichever the van's image has: "Every other call takes the new version only, and gives 1 (a join's other
-- image 41) for the old length."
pub data Call : Type 0 where
  act : (library : Version) (replica : ℕ) (bytes : Bytes) → Call
  merge : (library : Version) (replica from moment : ℕ) (handed : Version) → Call
  raise : (library : Version) (replica : ℕ) (buffer : Bytes) → Call

-- The replica that is called.
unfoldable pub callee : Call → ℕ
callee (act v r x) = r
callee (merge v r f k w) = r
callee (raise v r d) = r

-- What is kept for each moment and replica, once call n has left x on replica r: every other replica keeps what it had.
unfoldable pub after : {A : Type 0} → (ℕ → ℕ → A) → ℕ → ℕ → A → ℕ → ℕ → A
after f n r x m w = cond (eqb m (suc n)) (cond (eqb w r) x (f n w)) (f m w)

-- "Each call gets its van's image as the last call on that van left it. What is handed over is a copy": the answer of call n, and the image that it
-- leaves on its replica, where `stood m r` is the image of moment m on replica r.
unfoldable pub call_answer : ℕ → (stood : ℕ → ℕ → Bytes) → Call → ℕ
call_answer n stood (act v r x) = act_answer_in v (stood n r) x
call_answer n stood (merge v r f k w) = merge_images_answer_in v (stood n r) (raised_in w (stood k f))
call_answer n stood (raise v r d) = raise_answer_in v (stood n r) d

unfoldable pub call_image : ℕ → (stood : ℕ → ℕ → Bytes) → Call → Bytes
call_image n stood (act v r x) = act_image_in v (stood n r) x
call_image n stood (merge v r f k w) = merge_images_in v (stood n r) (raised_in w (stood k f))
call_image n stood (raise v r d) = cond (eqb (raise_answer_in v (stood n r) d) 0) (raise_image_in v (stood n r) d) (stood n r)

unfoldable pub images_next : ℕ → (stood : ℕ → ℕ → Bytes) → Call → ℕ → ℕ → Bytes
images_next n stood c = after stood n (callee c) (call_image n stood c)

-- The images that stood, and the answers, from call n on.
unfoldable pub images_from : ℕ → (stood : ℕ → ℕ → Bytes) → List Call → ℕ → ℕ → Bytes
images_from n stood [] = stood
images_from n stood (c ∷ cs) = images_from (suc n) (images_next n stood c) cs

unfoldable pub answers_from : ℕ → (stood : ℕ → ℕ → Bytes) → List Call → List ℕ
answers_from n stood [] = []
answers_from n stood (c ∷ cs) = call_answer n stood c ∷ answers_from (suc n) (images_next n stood c) cs

-- "eight empty images, vans 0 to 7 with one home table": the start, each in the version of the library that made it.
unfoldable pub start : (home : ℕ → ℕ) (made : ℕ → Version) → ℕ → ℕ → Bytes
start home made m r = encode_in (made r) home r empty

-- "A history is eight empty images, and then a list of calls: actions and joins, refused ones included", and raisings. The image of a moment on a replica.
unfoldable pub images : (home : ℕ → ℕ) (made : ℕ → Version) → List Call → (moment replica : ℕ) → Bytes
images home made h = images_from 0 (start home made) h

-- The answer to each call.
unfoldable pub answers : (home : ℕ → ℕ) (made : ℕ → Version) → List Call → List ℕ
answers home made h = answers_from 0 (start home made) h

-- "of each answer only whether it was 0"
abbrev pub accepted : List ℕ → List Bool
accepted [] = []
accepted (k ∷ ks) = eqb k 0 ∷ accepted ks

unfoldable pub oks : (home : ℕ → ℕ) (made : ℕ → Version) → List Call → List Bool
oks home made h = accepted (answers home made h)

-- What is kept in a book for each moment and replica, from call n on: it is fed the calls, and of each answer only whether it was 0. `learn` says what an
-- accepted call makes of its replica's entry; a refused call leaves it.
module _ {A : Type 0} (learn : ℕ → (ℕ → ℕ → A) → Call → A) where
  unfoldable pub note : ℕ → (ℕ → ℕ → A) → Call → Bool → ℕ → ℕ → A
  note n kept c ok = after kept n (callee c) (cond ok (learn n kept c) (kept n (callee c)))

  unfoldable pub book_from : ℕ → (ℕ → ℕ → A) → List Call → List Bool → ℕ → ℕ → A
  book_from n kept [] bs = kept
  book_from n kept (c ∷ cs) [] = kept
  book_from n kept (c ∷ cs) (b ∷ bs) = book_from (suc n) (note n kept c b) cs bs

-- The version of a replica's image: it is that of the library which made or raised it.
unfoldable pub raised_by : ℕ → (ℕ → ℕ → Version) → Call → Version
raised_by n kept (act v r x) = kept n r
raised_by n kept (merge v r f k w) = kept n r
raised_by n kept (raise v r d) = v

unfoldable pub versions : (home : ℕ → ℕ) (made : ℕ → Version) → List Call → (moment replica : ℕ) → Version
versions home made h = book_from raised_by 0 (λ m r. made r) h (oks home made h)

-- "An accepted action adds one step, known by its place in the list."
pub record Step : Type 0 where
  pub place : ℕ
  pub given : Given

-- What steps give, and their places.
abbrev pub givens : List Step → List Given
givens [] = []
givens (s ∷ ss) = s.given ∷ givens ss

abbrev pub places : List Step → List ℕ
places [] = []
places (s ∷ ss) = s.place ∷ places ss

-- "It is made from the action's fields and from what is worked out from the steps its van had heard before." A record that gives no action adds no step.
unfoldable pub with_step : ℕ → Option Action → List Step → List Step
with_step n none heard = heard
with_step n (some a) heard = record { place = n; given = gives a (worked_out (givens heard)) } ∷ heard

-- What an accepted call n makes its replica's steps. An action is what its record says to the library that makes it: "rule 1 where the founding named none", and
-- "A heard step made in an older version leaves its cost undated." "An accepted join adds all steps that the van handing over had heard at the moment named." A van
-- that raises its image "hears nothing new".
unfoldable pub learned : ℕ → (heard : ℕ → ℕ → List Step) → Call → List Step
learned n heard (act v r x) = with_step n (read_action_in v x) (heard n r)
learned n heard (merge v r f k w) = heard n r ++ heard k f
learned n heard (raise v r d) = heard n r

-- "What is heard stands in a plain book. It is fed the calls with their fields, and of each answer only whether it was 0; it sees no image.
-- For each van and moment it keeps the steps heard, none at the start." "A refused call adds no step."
unfoldable pub book : List Call → List Bool → (moment replica : ℕ) → List Step
book h bs = book_from learned 0 (λ m r. []) h bs

-- The steps heard at a moment on a replica.
unfoldable pub heard : (home : ℕ → ℕ) (made : ℕ → Version) → List Call → (moment replica : ℕ) → List Step
heard home made h = book h (oks home made h)
