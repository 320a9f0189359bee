-- The kinds of asks and of events, and their words.
use Rattle.std.specs.Prelude.{ℕ, List, codes}
use Rattle.sci_words.specs.declared.event.{AskKind.{AskKind}, Event.{Event}, EventKind.{EventKind}}
use Rattle.sci_words.specs.declared.event.AskKind.TheVariants.{Mread, Fread, Cread, Claim, Clear, Purge, Roll, Wback, Setback}
use Rattle.sci_words.specs.declared.event.EventKind.TheVariants.{Issue, Perform, Ask, Serve, Refuse, Reply, Accept}
use Rattle.sci_words.specs.declared.event.Event.TheVariants as event

abbrev pub kind_word : AskKind → List ℕ
kind_word Mread = codes "mread"
kind_word Fread = codes "fread"
kind_word Cread = codes "cread"
kind_word Claim = codes "claim"
kind_word Clear = codes "clear"
kind_word Purge = codes "purge"
kind_word Roll = codes "roll"
kind_word Wback = codes "wback"
kind_word Setback = codes "setback"

-- the number of a kind of requests, its place among all
abbrev pub ask_number : AskKind → ℕ
ask_number Mread = 0
ask_number Fread = 1
ask_number Cread = 2
ask_number Claim = 3
ask_number Clear = 4
ask_number Purge = 5
ask_number Roll = 6
ask_number Wback = 7
ask_number Setback = 8

abbrev pub kind_of : Event → EventKind
kind_of (event.Issue n op) = Issue
kind_of (event.Perform n line) = Perform
kind_of (event.Ask n line kind) = Ask
kind_of (event.Serve from n) = Serve
kind_of (event.Refuse from n) = Refuse
kind_of (event.Reply n) = Reply
kind_of (event.Accept from n) = Accept

abbrev pub word_of_kind : EventKind → List ℕ
word_of_kind Issue = codes "issue"
word_of_kind Perform = codes "perform"
word_of_kind Ask = codes "ask"
word_of_kind Serve = codes "serve"
word_of_kind Refuse = codes "refuse"
word_of_kind Reply = codes "reply"
word_of_kind Accept = codes "accept"
