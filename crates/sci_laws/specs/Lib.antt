pub mod Accepted
pub mod ReadBack
pub mod FollowedTurns
