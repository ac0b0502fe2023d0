-- What a pass knows: whether it is the owner's, the book, and its notes of puts and takes.
use Rattle.std.specs.Prelude.{◌≡◌, ℕ, true, false, ◌+◌, ◌-◌, ◌<◌, ◌==◌, not, List, [], ◌∷◌, ◌++◌, length, count_by}
use Rattle.solver_pool.specs.declared.pass_view.PassView.{PassView}
use Rattle.solver_pool.specs.declared.pass_view.Note.{Note}
use Rattle.solver_pool.specs.declared.pass_view.BookEntry.{BookEntry}

-- the owner's pass of a new ring
abbrev pub owner_view : {R : Type 0} → PassView R
owner_view = record { owner = true; ended = false; out = 0; book = []; put = []; took = [] }

-- a worker's pass when it is given out
abbrev pub worker_view : {R : Type 0} → List (BookEntry R) → PassView R
worker_view book = record { owner = false; ended = false; out = 0; book = book; put = []; took = [] }

-- a worker's pass once it was taken in
abbrev pub ended_view : {R : Type 0} → PassView R
ended_view = record { owner = false; ended = true; out = 0; book = []; put = []; took = [] }

-- a note of a key and of the units that its run had been granted
abbrev pub note : ℕ → ℕ → Note
note key granted = record { key = key; granted = granted }

-- the pass after a put, and after a take
abbrev pub with_put : {R : Type 0} → PassView R → Note → PassView R
with_put v n = record v { put = v.put ++ n ∷ [] }

-- a pass with one take noted
abbrev pub with_take : {R : Type 0} → PassView R → Note → PassView R
with_take v n = record v { took = v.took ++ n ∷ [] }

-- the owner's pass with one entry more in its book
abbrev pub with_entry : {R : Type 0} → PassView R → BookEntry R → PassView R
with_entry v e = record v { book = v.book ++ e ∷ [] }

-- the owner's pass after it gave a pass out, and after it took one in
abbrev pub with_pass_out : {R : Type 0} → PassView R → PassView R
with_pass_out v = record v { out = v.out + 1 }

-- the owner's pass once another one was taken in, with its notes
abbrev pub with_pass_in : {R : Type 0} → PassView R → PassView R → PassView R
with_pass_in v u = record v { out = v.out - 1; put = v.put ++ u.put; took = v.took ++ u.took }

-- how many notes are of this key
abbrev pub count_of : ℕ → List Note → ℕ
count_of h notes = count_by (λ n. n.key == h) notes

-- how many of these passes did not end
abbrev pub live_count : {R : Type 0} → List (PassView R) → ℕ
live_count views = count_by (λ v. not v.ended) views

-- the owner's pass, while no other is out
abbrev pub IsAlone : {R : Type 0} → PassView R → Type 0
IsAlone v = (v.owner ≡ true) × (v.out ≡ 0)

-- the owner's pass, while no other is out and it may put one job more
abbrev pub MayOpen : {R : Type 0} → PassView R → Type 0
MayOpen v = IsAlone v × (length v.put < length v.took + 16)

-- the pass holds a job of this key: a worker's took it and did not put it back, and the owner's may put up to 16 more than it took
abbrev pub MayPut : {R : Type 0} → PassView R → ℕ → Type 0
MayPut v h =
    (v.owner ≡ true → length v.put < length v.took + 16)
    × (v.owner ≡ false → (count_of h v.put < count_of h v.took) × (length v.put < length v.took))
