-- The layout of a file: big-endian words of 32 bits, at most 16,384, which make up records.
use Rattle.std.specs.Prelude.{◌≡◌, ℕ, zero, suc, ◌+◌, ◌*◌, ◌/◌, ◌%◌, cond, ◌&&◌, List, [], ◌∷◌, ◌++◌, map, length, take, drop, Some, None, Ok, Err, vec_items, Option, Result, Vec, ◌==◌, nat_le, nat_lt}
use Rattle.std.specs.declared.alloc.Global.{Global}
use Rattle.records.specs.declared.file.Part as declared
use Rattle.records.specs.declared.file.File as DeclaredFile
use Rattle.records.specs.declared.reading.Body as DeclaredBody
use Rattle.records.specs.declared.reading.Next as DeclaredNext
use Rattle.records.specs.declared.reading.Start.{Start}
use Rattle.records.specs.declared.file.Values.{Values}
use Rattle.records.specs.declared.file.Values.TheVariants as values
use Rattle.records.specs.declared.file.Part.TheVariants as parts
use Rattle.records.specs.declared.file.FileFault.{FileFault}
use Rattle.records.specs.declared.file.FileFault.TheVariants.{BadFile, NoMemory}

abbrev pub and_then : {A B : Type 0} → Option A → (A → Option B) → Option B
and_then None f = None
and_then (Some a) f = f a

-- An answer behind what was read before it.
abbrev pub before : {A : Type 0} → List A → Option (List A) → Option (List A)
before xs o = and_then o (λ ys. Some (xs ++ ys))

-- A pair or a claim, by its words.
pub data Part : Type 0 where
  pair : List ℕ → Part
  claim : List ℕ → Part

pub record Layout : Type 0 where
  pub values : Values
  pub shared : ℕ
  pub first : List ℕ
  pub second : List ℕ
  pub parts : List Part

-- four bytes to a word, the highest first
abbrev pub word : ℕ → ℕ → ℕ → ℕ → ℕ
word a b c d = a * 16777216 + b * 65536 + c * 256 + d

abbrev pub words_of : List ℕ → Option (List ℕ)
words_of [] = Some []
words_of (a ∷ []) = None
words_of (a ∷ (b ∷ [])) = None
words_of (a ∷ (b ∷ (c ∷ []))) = None
words_of (a ∷ (b ∷ (c ∷ (d ∷ bytes)))) = and_then (words_of bytes) (λ ws. Some (word a b c d ∷ ws))

-- A record begins with a word of its mark, hex F, its type and a zero byte, and the count of the words that follow.
-- These words, and what stands behind them:
pub record Body : Type 0 where
  pub words : List ℕ
  pub rest : List ℕ

abbrev pub body : (mark : ℕ) → List ℕ → Option Body
body mark [] = None
body mark (w ∷ ws) = cond (w / 65536 == mark && nat_le (w % 65536) (length ws)) (Some (record { words = take (w % 65536) ws; rest = drop (w % 65536) ws })) None

-- The pair (type 3) or claim (type 4) at the front.
abbrev pub or_else : {A : Type 0} → Option A → Option A → Option A
or_else (Some a) other = Some a
or_else None other = other

pub record Next : Type 0 where
  pub part : Part
  pub rest : List ℕ

abbrev pub next : List ℕ → Option Next
next ws = or_else (and_then (body 0xF300 ws) (λ b. Some (record { part = pair b.words; rest = b.rest }))) (and_then (body 0xF400 ws) (λ b. Some (record { part = claim b.words; rest = b.rest })))

-- The pairs and claims that words consist of. The depth bounds how many; each takes a word or more.
abbrev pub parts_within : (depth : ℕ) → List ℕ → Option (List Part)
parts_within depth [] = Some []
parts_within zero (w ∷ ws) = None
parts_within (suc n) (w ∷ ws) = and_then (next (w ∷ ws)) (λ x. and_then (parts_within n x.rest) (λ ps. Some (x.part ∷ ps)))

unfoldable pub parts_of : List ℕ → Option (List Part)
parts_of ws = parts_within (length ws) ws

-- The start: hex F000, the shared count, the domain (0 words, 1 bytes).
abbrev pub start_of : ℕ → Option Start
start_of w = cond (w / 65536 == 0xF000 && nat_lt (w % 256) 2) (Some (record { values = cond (w % 256 == 0) values.Words values.Bytes; shared = w / 256 % 256 })) None

-- Start, first table (type 1), second table (type 2), then the parts.
abbrev pub layout_of : List ℕ → Option Layout
layout_of [] = None
layout_of (w ∷ ws) =
    and_then (start_of w) (λ s.
    and_then (body 0xF100 ws) (λ a.
    and_then (body 0xF200 a.rest) (λ b.
    and_then (parts_of b.rest) (λ ps.
    Some (record { values = s.values; shared = s.shared; first = a.words; second = b.words; parts = ps })))))

abbrev pub file_of : List ℕ → Option Layout
file_of bytes = cond (nat_le (length bytes) 65536) (and_then (words_of bytes) layout_of) None

-- What the code's values stand for.
abbrev pub seen_part : declared.Part → Part
seen_part (parts.Pair ws) = pair (vec_items ws)
seen_part (parts.Claim ws) = claim (vec_items ws)

abbrev pub seen_parts : Vec declared.Part Global → List Part
seen_parts ps = map seen_part (vec_items ps)

abbrev pub seen_body : Option DeclaredBody.Body → Option Body
seen_body None = None
seen_body (Some b) = Some (record { words = b.words.now; rest = b.rest.now })

abbrev pub seen_next : DeclaredNext.Next → Next
seen_next x = record { part = seen_part x.part; rest = x.rest.now }

abbrev pub seen : DeclaredFile.File → Layout
seen f = record { values = f.values; shared = f.shared; first = vec_items f.first; second = vec_items f.second; parts = seen_parts f.parts }

-- The answer of a reader that may run out of memory, and is otherwise the defined one.
abbrev pub Reads : {X Y : Type 0} → (X → Y) → Result X FileFault → Option Y → Type 0
Reads see (Ok x) answer = answer ≡ Some (see x)
Reads see (Err BadFile) answer = answer ≡ None
Reads see (Err NoMemory) answer = Unit {0}
