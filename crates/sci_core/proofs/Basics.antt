-- Lists, optional values and logs, with nothing of the protocol in them.
pub mod Lists
pub mod Options
pub mod Logs
pub mod FlatMaps
