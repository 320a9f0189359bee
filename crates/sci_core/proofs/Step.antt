-- What one event does.
-- A call of a node is its side of the event (`Caches`, `Nodes`, `Asks`), and the machine's step is that side with one packet
-- (`Sides`, `Stepping`, `Applied`). Serve, Refuse and Accept are one step (`Takings`), and a change of the state is of one node
-- or of one lane (`States`, `Places`). So a step of a well formed state goes in one of seven ways (`Steps`), and does one thing
-- at its node (`NodeSides`). Nothing stands in the way of an event exactly if it is enabled (`Obstacles`).
pub mod Caches
pub mod Nodes
pub mod Asks
pub mod Places
pub mod Stepping
pub mod States
pub mod Takings
pub mod Applied
pub mod Stops
pub mod Steps
pub mod NodeSides
pub mod Sides
pub mod Obstacles
