-- The home of a line: what it does with each request that comes. From IEEE Std 1596-1992 are the three states of the
-- memory (HOME, FRESH, GONE), that the home keeps the identifier of the list's head, and how a list grows. The rest is
-- this project's profile, as each definition says.
use Rattle.std.specs.Prelude.{ℕ, Bool, true, false, IsTrue, ◌==◌, if◌then◌else◌, List, codes, Option, Some, None}
use Rattle.sci_words.specs.{declared.stamped.Stamped.{Stamped}, Stamped.{zero_stamped}}
use Rattle.sci_packets.specs.declared.body.Body.{Body}
use Rattle.sci_packets.specs.declared.body.Body.TheVariants.{Mread, Fread, Claim, Clear, Wback, Mdata, Mgone, Fdata, Wbok, Wbno}
use Rattle.sci_home.specs.declared.state.HomeState.{HomeState, TheVariants.{Home, Fresh, Gone}}

-- the home of a line that nobody has touched: HOME, with zero words at version 0 (the profile)
abbrev pub opening_home : HomeState
opening_home = Home zero_stamped

-- the name of a state, as in the standard
unfoldable pub home_name : HomeState → List ℕ
home_name (Home c) = codes "HOME"
home_name (Fresh p c) = codes "FRESH"
home_name (Gone p) = codes "GONE"

-- the requests that a home serves (the profile)
abbrev pub is_for_home : Body → Bool
is_for_home Mread = true
is_for_home Fread = true
is_for_home Claim = true
is_for_home Clear = true
is_for_home (Wback contents) = true
is_for_home _ = false

abbrev pub IsForHome : Body → Type 0
IsForHome body = IsTrue (is_for_home body)

-- A wish to write (mread64). As in the standard, node n becomes the head; it gets the contents, or is told the old head.
-- That the line is GONE then is the profile.
abbrev pub serving_mread : HomeState → ℕ → HomeState × Body
serving_mread (Home c) n = (Gone n, Mdata c)
serving_mread (Fresh p c) n = (Gone n, Mgone p)
serving_mread (Gone p) n = (Gone n, Mgone p)

-- A wish to read alone. As in the standard, node n becomes the head, and is told the old one. That a fresh list grows by
-- such reads alone, and that n gets the contents from the home, is the profile.
abbrev pub serving_fread : HomeState → ℕ → HomeState × Body
serving_fread (Home c) n = (Fresh n c, Fdata None c)
serving_fread (Fresh p c) n = (Fresh n c, Fdata (Some p) c)
serving_fread (Gone p) n = (Gone n, Mgone p)

-- only the head of a fresh list may come to write (the profile)
abbrev pub serving_claim : HomeState → ℕ → HomeState × Body
serving_claim (Home c) n = (Home c, Wbno)
serving_claim (Fresh p c) n = if p == n then (Gone n, Wbok) else (Fresh p c, Wbno)
serving_claim (Gone p) n = (Gone p, Wbno)

-- only the head of a fresh list may leave it (the profile)
abbrev pub serving_clear : HomeState → ℕ → HomeState × Body
serving_clear (Home c) n = (Home c, Wbno)
serving_clear (Fresh p c) n = if p == n then (Home c, Wbok) else (Fresh p c, Wbno)
serving_clear (Gone p) n = (Gone p, Wbno)

-- only the head of a list that may write gives contents back (the profile)
abbrev pub serving_wback : HomeState → ℕ → Stamped → HomeState × Body
serving_wback (Home c) n back = (Home c, Wbno)
serving_wback (Fresh p c) n back = (Fresh p c, Wbno)
serving_wback (Gone p) n back = if p == n then (Home back, Wbok) else (Gone p, Wbno)

-- the next state of a home and its answer to a request from node n; none if no home serves such a packet
abbrev pub home_serving : HomeState → ℕ → Body → Option (HomeState × Body)
home_serving state n Mread = Some (serving_mread state n)
home_serving state n Fread = Some (serving_fread state n)
home_serving state n Claim = Some (serving_claim state n)
home_serving state n Clear = Some (serving_clear state n)
home_serving state n (Wback c) = Some (serving_wback state n c)
home_serving state n _ = None

-- the contents of a line if its home has them: as in the standard, memory is current at HOME and FRESH
abbrev pub current_of : HomeState → Option Stamped
current_of (Home c) = Some c
current_of (Fresh head c) = Some c
current_of (Gone head) = None

-- the head of the line's list, which the home keeps as in the standard; none at HOME
abbrev pub head_of : HomeState → Option ℕ
head_of (Home c) = None
head_of (Fresh head c) = Some head
head_of (Gone head) = Some head
