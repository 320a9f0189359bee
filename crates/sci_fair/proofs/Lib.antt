pub mod Taking
pub mod Stuck
pub mod Opens
pub mod Looks
pub mod Vain
pub mod Followers
pub mod RankTables
pub mod Suits
pub mod ReadCarries
pub mod ReadSteps
pub mod OneStep
pub mod AnswersGo
pub mod Trace
pub mod Used
pub mod RankSteps
pub mod WholeTurns
pub mod Steadied
pub mod StateSteps
pub mod Whereabouts
pub mod SteadyTurns
pub mod Betweens
pub mod Works
pub mod Sums
pub mod Few
pub mod Waiting
pub mod Awaiting
pub mod LaneTurns
pub mod HomeAnswers
pub mod Descents
pub mod Fronts
mod Going
mod Creads
mod Leaders
mod KeptTurns
mod Passing
mod TurnLaws
mod EachRequest
pub mod Requests
pub mod AnswersCome
pub mod SteadyLaws
pub mod Retries
pub mod Kept
pub mod HeldUp
pub mod Markings
pub mod Patience
pub mod FirstWants
pub mod Ahead
pub mod Sharers
pub mod Promised
pub mod Comers
pub mod Joins
pub mod Homes
mod Standing
pub mod Standstill
pub mod Stretches
