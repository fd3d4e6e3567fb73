pub mod Radicals
