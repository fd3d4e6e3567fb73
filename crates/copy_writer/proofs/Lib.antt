mod Collecting
mod Placing
