-- What the program `statement` prints: document 01, 'Program `statement`'.
use Rattle.std.specs.Prelude.{cond, [], ◌∷◌, ◌++◌, ℕ, zero, suc, ◌+◌, ◌/◌, ◌%◌, ltb, eqb, ℤ, pos, negsuc, length, take, drop}
use Prim.Native.Char.{code}
use Prim.Native.String.{String, [] as []ˢ, ◌∷◌ as ◌∷ˢ◌}
use Rattle.format.specs.Layout.{user_count, group_count, image_size}
use Rattle.format.specs.Bytes.{Bytes}
use Rattle.format.specs.declared.Line.{Line}
use Rattle.format.specs.declared.Totals.{Totals}
use Rattle.rules.specs.Ledger.{Ledger, group_absent}
use Rattle.rules.specs.Balance.{line_of, totals_of}
use Rattle.images.specs.Image.{decode, replica_of, image_check}
use Rattle.images.specs.Calls.{merge_images_answer, merge_images}

-- A text in ASCII.
abbrev pub ascii : String → Bytes
ascii []ˢ = []
ascii (c ∷ˢ s) = code c ∷ ascii s

-- A number's decimal digits, without leading zeros: those of n div 10, then the last one. (The number itself bounds how many there are.)
unfoldable pub digits_of : (most n : ℕ) → Bytes
digits_of zero n = []
digits_of (suc most) n = cond (ltb n 10) ((48 + n) ∷ []) (digits_of most (n / 10) ++ ((48 + n % 10) ∷ []))

unfoldable pub decimal : ℕ → Bytes
decimal n = digits_of (suc n) n

-- A number with a minus sign where it is negative.
unfoldable pub signed : ℤ → Bytes
signed (pos n) = decimal n
signed (negsuc n) = ascii "-" ++ decimal (suc n)

-- `van N`
unfoldable pub van_text : ℕ → Bytes
van_text r = (ascii "van " ++ decimal r) ++ ascii "\n"

-- `refused N`
unfoldable pub refused_text : ℕ → Bytes
refused_text n = (ascii "refused " ++ decimal n) ++ ascii "\n"

-- `crew N members N costs N gifts N`
unfoldable pub crew_line : ℕ → Totals → Bytes
crew_line g t =
    (ascii "crew " ++ decimal g) ++ ((ascii " members " ++ decimal t.members) ++ ((ascii " costs " ++ decimal t.expenses) ++ ((ascii " gifts " ++ decimal t.gifts) ++ ascii "\n")))

-- `user N counter N raw N gift N part N balance N`
unfoldable pub standing_text : (user counter : ℕ) → ℤ → Bytes
standing_text u n r = (ascii "user " ++ decimal u) ++ ((ascii " counter " ++ decimal n) ++ (ascii " raw " ++ signed r))

unfoldable pub outcome_text : (gift part : ℕ) → ℤ → Bytes
outcome_text g p b = (ascii " gift " ++ decimal g) ++ ((ascii " part " ++ decimal p) ++ ((ascii " balance " ++ signed b) ++ ascii "\n"))

unfoldable pub user_line : ℕ → Line → Bytes
user_line u l = standing_text u l.counter l.raw ++ outcome_text l.gift l.part l.balance

-- "each user ever a member, by number": the first n users.
unfoldable pub user_text : ℕ → Line → Bytes
user_text u l = cond (ltb 0 l.counter) (user_line u l) []

unfoldable pub users_text : ℕ → (ℕ → Line) → Bytes
users_text zero f = []
users_text (suc n) f = users_text n f ++ user_text n (f n)

-- "for each present crew its number, members, valid costs, gifts; under it each user ever a member": the first n crews.
unfoldable pub crew_text : Ledger → ℕ → Bytes
crew_text l g = cond (group_absent l g) [] (crew_line g (totals_of l g) ++ users_text user_count (line_of l g))

unfoldable pub crews_text : ℕ → Ledger → Bytes
crews_text zero l = []
crews_text (suc n) l = crews_text n l ++ crew_text l n

-- "Lines: van number; for each present crew ..": the statement of an image.
unfoldable pub statement_text : Bytes → Bytes
statement_text b = van_text (replica_of b) ++ crews_text group_count (decode b)

-- One image: its statement, or the refusal of the image check.
unfoldable pub image_text : Bytes → Bytes
image_text b = cond (eqb (image_check b) 0) (statement_text b) (refused_text (image_check b))

-- "own and other, which it joins first": the statement of what the join leaves, or the refusal of the join.
unfoldable pub joined_text : Bytes → Bytes → Bytes
joined_text b d = cond (eqb (merge_images_answer b d) 0) (statement_text (merge_images b d)) (refused_text (merge_images_answer b d))

-- "Standard input holds one image, or own and other; input of any other length gives N = 1."
unfoldable pub program_text : Bytes → Bytes
program_text x =
    cond (eqb (length x) image_size) (image_text x)
    (cond (eqb (length x) (image_size + image_size)) (joined_text (take image_size x) (drop image_size x)) (refused_text 1))
