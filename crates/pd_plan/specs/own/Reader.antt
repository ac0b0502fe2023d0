-- Where a `Reader` stands, in the words of `Progress`. Only private clauses speak of it.
use Rattle.std.specs.Prelude.{ℕ, List, Result}
use Rattle.pd_sexp.specs.Lexer.{Standing, gap, comment, word}
use Rattle.pd_words.specs.declared.named.Named.{Named}
use Rattle.pd_plan.specs.own.Progress as at
use Rattle.pd_plan.specs.Fault.{Fault}
use Rattle.pd_words.specs.First.{LeavesOr}
use Rattle.pd_plan.specs.own.Answers.{fault_of}
use Rattle.pd_plan.specs.declared.lists.WordList.{WordList}
use Rattle.pd_plan.specs.declared.fault.PlanFault.{PlanFault}
use Rattle.pd_plan.specs.declared.reader.Reader.{Reader}
use Rattle.pd_plan.specs.declared.reader.Place.{Place}
use Rattle.pd_plan.specs.declared.reader.Place.TheVariants.{Between, Inside}

-- where the reader stands among lists
abbrev pub place_of : Place → ℕ → List Named → at.Place
place_of Between start words = at.between
place_of Inside start words = at.inside start words

-- where it stands among letters and comments
abbrev pub state_from : List WordList → Standing → Place → ℕ → List Named → at.State
state_from done gap place start words = at.gap done (place_of place start words)
state_from done comment place start words = at.comment done (place_of place start words)
state_from done (word first letters) place start words = at.word done start words first letters

-- what the fields of a `Reader` stand for
abbrev pub state_of : Reader → at.State
state_of r = state_from r.done.items r.lexer r.place r.start r.words.items

-- The step leads to this state, or has the fault that was told; of want of memory nothing is said.
abbrev pub Steps : Result at.State Fault → at.State → Result (Unit {0}) PlanFault → Type 0
Steps step new result = LeavesOr fault_of step (λ _. new) result
