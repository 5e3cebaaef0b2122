-- When the number reader's answer is decided: at which byte, and that nothing behind that byte alters it.
use Rattle.std.specs.Prelude.{ℕ, ◌≤◌, ◌<◌, ◌≡◌, List, ◌++◌, length, take, get_or, Result, Ok, Err, IfOk, IfErr, OnErr}
use Rattle.varint.specs.declared.refusal.Refusal.{Refusal}
use Rattle.varint.specs.declared.refusal.Refusal.TheVariants.{Ends}
use Rattle.varint.specs.Refusal.{number_of}
use Rattle.varint.specs.Varint.{Read, got, refuse, read_number}

-- The first bytes of bs decide the answer of f: whatever follows them it is `answer`, and while one of them is missing it is 3.
pub record Decided (f : List ℕ → Read ℕ) (most : ℕ) (bs : List ℕ) (answer : List ℕ → Read ℕ) : Type 0 where
  pub bytes : List ℕ
  pub rest : List ℕ
  pub parts : bs ≡ bytes ++ rest
  pub some : 1 ≤ length bytes
  pub few : length bytes ≤ most
  pub again : (t : List ℕ) → f (bytes ++ t) ≡ answer t
  pub before : (k : ℕ) → k < length bytes → f (take k bytes) ≡ refuse 3

-- more bytes are asked for: at most `most` stand there, and each says that another group follows
abbrev pub Asking : ℕ → List ℕ → Type 0
Asking most bs = (length bs ≤ most) × ((i : ℕ) → i < length bs → 128 ≤ get_or bs i 0)

-- what the contract of `take_number` allows where s is to be read: the answer r, with `rest` left to read. They are its clauses, word for word, and its
-- clause `decided`: the proof of `take_number` gives it at each return.
abbrev pub Allowed : List ℕ → Result ℕ Refusal → List ℕ → Type 0
Allowed s r rest = record {
  got : IfOk r (λ x. read_number s ≡ got x rest);
  refused : IfErr r (λ why. read_number s ≡ refuse (number_of why));
  kept : OnErr r (rest ≡ s);
  small : IfOk r (λ x. x < 268435456);
}

-- r is the one answer that it allows, and `rest` the one thing left
abbrev pub TheAnswer : List ℕ → Result ℕ Refusal → List ℕ → Type 0
TheAnswer s r rest = Allowed s r rest × ((r' : Result ℕ Refusal) (rest' : List ℕ) → Allowed s r' rest' → (r' ≡ r) × (rest' ≡ rest))

-- what is left of the bytes p ++ t where p decides that the answer is r
abbrev pub left : Result ℕ Refusal → List ℕ → List ℕ → List ℕ
left (Ok x) p t = t
left (Err why) p t = p ++ t

-- The bytes p decide the answer of `take_number`: whatever follows them it is r, and while one of them is missing it is `Ends`.
pub record DecidedCall (p : List ℕ) (r : Result ℕ Refusal) : Type 0 where
  pub some : 0 < length p
  pub few : length p ≤ 4
  pub again : (t : List ℕ) → TheAnswer (p ++ t) r (left r p t)
  pub before : (k : ℕ) → k < length p → TheAnswer (take k p) (Err Ends) (take k p)
